-- The links of published files: each wrap is one, from the name of its opener to that of its
-- content. Files are listed the newest first.
use Rattle.std.specs.Prelude.{◌≡◌, List, Contains}
use Rattle.keys.specs.declared.KeyName.{KeyName}
use Rattle.keys.specs.Names.{key_name}
use Rattle.file_rules.specs.Files.{Rekey, WrappedKey}
use Rattle.file_rules.specs.Reading.{parsed_file}
use Rattle.law.specs.Runs.{Edition}

-- a published file as its reader reads it
abbrev pub edition_file : Edition → Rekey
edition_file x = parsed_file x.wrap.length x.bytes

-- a link by its two names: those of the opener and the content of a wrap in a published file
pub record IsLink (files : List Edition) (opener content : KeyName) : Type 0 where
  pub file : Edition
  pub is_file : Contains files file
  pub wrap : WrappedKey
  pub is_wrap : Contains (edition_file file).wraps wrap
  pub is_opener : wrap.opener ≡ opener
  -- a content's key is made in the epoch of its file
  pub is_content : key_name wrap.content (edition_file file).epoch ≡ content
