-- Both wraps keep what is asked of a wrap.
use Rattle.std.proofs.Common.{lit≤}
use Rattle.aes.proofs.Permuting.{permutes}
use Rattle.wrap.specs.Meaning.{IsLawfulWrap}
use Rattle.wrap_rules.specs.Meanings.{rfc_3394, rfc_5297}
use Rattle.wrap_rules.proofs.KeyWrapLaw.{wrap_sized, unwrap_wrap, unwrap_only}
use Rattle.wrap_rules.proofs.SivLaw.{siv_sized, open_siv_lem, open_only}

-- the wrap of RFC 3394 is lawful
pub rfc_3394_lawful : IsLawfulWrap rfc_3394
rfc_3394_lawful = record {
  kind_range = (lit≤ tt, lit≤ tt);
  length_range = (lit≤ tt, lit≤ tt);
  sealed_sized = λ k n c hk hn hc. wrap_sized k (permutes k hk.1) c hc;
  opens_sealed = λ k n c hk hn hc. unwrap_wrap k (permutes k hk.1) c hc;
  opened_was_sealed = λ k n z c hk hn hz o. unwrap_only k (permutes k hk.1) z c hz o;
}

-- the wrap of RFC 5297 is lawful
pub rfc_5297_lawful : IsLawfulWrap rfc_5297
rfc_5297_lawful = record {
  kind_range = (lit≤ tt, lit≤ tt);
  length_range = (lit≤ tt, lit≤ tt);
  sealed_sized = λ k n c hk hn hc. siv_sized k n c hk hn.1 hc;
  opens_sealed = λ k n c hk hn hc. open_siv_lem k n c;
  opened_was_sealed = λ k n z c hk hn hz o. open_only k n z c hk hz o;
}
