use Rattle.std.proofs.Common.{◌≡◌, true, ap, ◌∙◌, arith}
use Rattle.file_rules.specs.Layout.{is_rekey_file}
use Rattle.file_reader.proofs.Laid.{laid}
use Rattle.file_reader.proofs.file.RekeyFile.over.Goals as goal

pub invariant_of-result : goal.invariant_of-result
invariant_of-result g c =
    let bs = c.args.bytes.now in
    let whole : is_rekey_file c.sealed_len.result c.args.bytes.now ≡ true = ap (λ n. is_rekey_file n bs) c.sealed_len.ensures ∙ c.requires in
    let h = laid c.sealed_len.result bs whole in
    record {
      laid = whole;
      short = omega (arith, c.sealed_len.ensures, g.met.W.Wrap.lawful.length_range.1);
      few_nodes = h.few_nodes;
      few_wraps = h.few_wraps;
      size = h.size;
    }
