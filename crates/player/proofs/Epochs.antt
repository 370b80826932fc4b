-- The epoch of a file that was checked.
use Rattle.std.proofs.Common.{◌≡◌, ℕ, ◌≤◌, true, List, sym, refl, ◌∙◌}
use Rattle.byte_strings.specs.Numbers.{byte_at, be_number4}
use Rattle.file_rules.specs.Layout.{is_rekey_file}
use Rattle.file_rules.proofs.Faults.{none_both, is_none, at_values}
use Rattle.file_rules.proofs.Faultless.{faultless_head}

-- the epoch that a checked file names is at most 1000000
pub epoch_range : (L : ℕ) (bs : List ℕ) → is_rekey_file L bs ≡ true → be_number4 bs 3 ≤ 1000000
unfolding is_rekey_file
epoch_range L bs e = (faultless_head (byte_at bs 2) bs (none_both _ _ (sym (at_values (byte_at bs 2) L bs _ _ _ refl refl refl) ∙ is_none _ e)).0).epoch.1
