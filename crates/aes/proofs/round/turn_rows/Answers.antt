use Rattle.std.proofs.Common.{ℕ, ◌+◌, ◌*◌, ◌%◌, map, get_or, ap, ◌∙◌, rules}
use Rattle.std.specs.List.{range_with_len}
use Rattle.byte_strings.proofs.Arrays.{made_by}
use Rattle.aes.specs.State.{shift_rows, inv_shift_rows}
use Rattle.aes.proofs.round.turn_rows.Goals as goal

pub returns : goal.returns
unfolding shift_rows inv_shift_rows
returns c =
    let at : ℕ → ℕ → ℕ = λ times i. get_or c.args.s ((i + 4 * times * (i % 4)) % 16) 0 in
    let turned = made_by _ (at c.args.times) _ (λ i y q k. search rules) c.from_fn.result 16 c.from_fn.ensures.items in
    record {
      once = λ e. turned ∙ ap (λ (t : ℕ). map (at t) (range_with_len 0 16)) e;
      thrice = λ e. turned ∙ ap (λ (t : ℕ). map (at t) (range_with_len 0 16)) e;
    }
