-- What a checked file shows.
use Rattle.std.specs.Prelude.{ℕ, List}
use Rattle.file_reader.specs.declared.file.RekeyFile.{RekeyFile}

-- the bytes that it stands in
abbrev pub lent_bytes : RekeyFile → List ℕ
lent_bytes file = file.bytes.now

-- how many sealed bytes each of its wraps has
abbrev pub sealed_len_of : RekeyFile → ℕ
sealed_len_of file = file.sealed_len
