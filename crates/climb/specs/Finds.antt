-- What the search of a file finds.
use Rattle.std.specs.Prelude.{◌≡◌, ◌<◌}
use Rattle.file_rules.specs.Files.{Rekey}
use Rattle.file_rules.specs.Reading.{parsed_file}
use Rattle.file_reader.specs.Views.{wrapped_key_of}
use Rattle.file_reader.specs.RekeyFiles.{lent_bytes, sealed_len_of}
use Rattle.file_reader.specs.declared.file.RekeyFile.{RekeyFile}
use Rattle.player_rules.specs.Searches.{OpenableWrap}
use Rattle.player_rules.specs.Climbs.{wrap_by_index}
use Rattle.climb.specs.declared.search.Found.{Found}

-- the file that is read back from the bytes of a checked one
abbrev pub checked_rekey : RekeyFile → Rekey
checked_rekey file = parsed_file (sealed_len_of file) (lent_bytes file)

-- what was found as the definitions speak of it: a wrap by its index
abbrev pub openable_wrap_of : Found → OpenableWrap
openable_wrap_of it = record { wrap = it.wrap.index; entry = it.ring_entry }

-- the wrap that was found is the file's wrap of its index, and the entry is one of a ring
pub record IsFoundIn (f : Rekey) (it : Found) : Type 0 where
  pub epoch : it.wrap.content.epoch ≡ f.epoch
  pub wrap : wrapped_key_of it.wrap ≡ wrap_by_index f it.wrap.index
  pub in_ring : it.ring_entry < 8
