-- What the two wraps mean: RFC 3394 is kind 1, RFC 5297 is kind 2.
use Rattle.std.specs.Prelude.{[], ◌∷◌}
use Rattle.wrap.specs.Meaning.{WrapMeaning}
use Rattle.wrap_rules.specs.KeyWrap.{key_wrap, key_unwrap}
use Rattle.wrap_rules.specs.Siv.{siv, siv_plaintext}

-- RFC 3394, the AES key wrap under the whole key; the name has no part in it
abbrev pub rfc_3394 : WrapMeaning
rfc_3394 = record {
  kind = 1;
  length = 40;
  seals = λ key name content. key_wrap key content;
  opens = λ key name bytes. key_unwrap key bytes;
}

-- RFC 5297, AES-SIV: the name is the one associated string, the content the plaintext
abbrev pub rfc_5297 : WrapMeaning
rfc_5297 = record {
  kind = 2;
  length = 48;
  seals = λ key name content. siv key (name ∷ []) content;
  opens = λ key name bytes. siv_plaintext key (name ∷ []) bytes;
}
