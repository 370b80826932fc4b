use Rattle.field.proofs.Boxes.{inv_s_box_undoes, s_box_undoes, inverse_inverts, box_examples}
use Rattle.field.proofs.Columns.{inv_mix_mix, mix_inv_mix}
use Rattle.field.proofs.Linear.{product_xor}
use Rattle.field.proofs.field_laws.Goals as goal

pub returns : goal.returns
returns c = record {
  boxes = λ b h. (inv_s_box_undoes b h, s_box_undoes b h);
  inverses = inverse_inverts;
  linear = product_xor;
  columns = λ a b c d ha hb hc hd. (inv_mix_mix a b c d ha hb hc hd, mix_inv_mix a b c d ha hb hc hd);
  examples = box_examples;
}
