-- What a publishing reports and leaves: its checks in their order, the plan and the file.
use Rattle.std.specs.Prelude.{ℕ, ◌+◌, not, if◌then◌else◌, List, [], ◌∷◌, ◌++◌, length, drop, Ok}
use Rattle.std.specs.Prelude.{nat_le, nat_lt}
use Rattle.refusal.specs.Refusals.{Verdict, refusal, new_or_old}
use Rattle.wrap.specs.Calls.{is_working_short}
use Rattle.tree.specs.declared.types.Pair.{Pair}
use Rattle.tree.specs.Rows.{changed_nodes}
use Rattle.keys.specs.Names.{keys_in}
use Rattle.file_rules.specs.Files.{Rekey, file_bytes, file_size}
use Rattle.file_rules.specs.Sealing.{rekey_of}
use Rattle.server_rules.specs.declared.state.State.{State}
use Rattle.server_rules.specs.declared.state.PublishReport.{PublishReport}
use Rattle.server_rules.specs.States.{row, has_notes}
use Rattle.cradles.specs.Draws.{drawn_size, keys_after_change}
use Rattle.server_rules.specs.Calls.{Publishing}
use Rattle.keys.specs.declared.limits.TheConstants.{LAST_EPOCH}
use Rattle.std.specs.Result.{result_and}

-- the plan of the strategy for the codes of the cradles
abbrev pub publishing_plan : State → Publishing → List Pair
publishing_plan s p = p.strategy (row s)

-- the file: the changed nodes, and the plan's pairs, sealed with the keys before and after the
-- change
abbrev pub publishing_file : State → Publishing → Rekey
publishing_file s p =
    rekey_of p.wrap.kind p.wrap.seals (s.epoch + 1) (changed_nodes (row s)) (publishing_plan s p)
    (keys_in s.nodes) (keys_in (keys_after_change (s.epoch + 1) (row s) p.material s.nodes))

-- how many bytes the file has
abbrev pub publishing_size : State → Publishing → ℕ
publishing_size s p =
    file_size p.wrap.length (length (changed_nodes (row s))) (length (publishing_plan s p))

-- the checks of the server alone: something is noted, or 7, and the epoch is not the last, or 8
abbrev pub due_verdict : State → Verdict (Unit {0})
due_verdict s =
    if not (has_notes s) then refusal 7 []
    else (if nat_le LAST_EPOCH s.epoch then refusal 8 [] else Ok tt)

-- the checks of what is lent, before the plan is written: working bytes, or 9; material, or 10 with
-- the bytes needed; pairs, or 11 with the pairs needed
abbrev pub lent_verdict : State → Publishing → Verdict (Unit {0})
lent_verdict s p =
    if is_working_short p.work then refusal 9 []
    else (if nat_lt (length p.material) (drawn_size (row s))
    then refusal 10 (drawn_size (row s) ∷ [])
    else (if nat_lt (length p.pairs) (length (publishing_plan s p))
    then refusal 11 (length (publishing_plan s p) ∷ []) else Ok tt))

-- all checks before the plan is written: 7, 8, 9, 10, 11
abbrev pub publish_plan_verdict : State → Publishing → Verdict (Unit {0})
publish_plan_verdict s p = result_and (due_verdict s) (lent_verdict s p)

-- what a publishing reports where nothing refuses it
abbrev pub publishing_report : State → Publishing → PublishReport
publishing_report s p = record {
  epoch = s.epoch + 1;
  wraps = length (publishing_plan s p);
  bytes = publishing_size s p;
  drawn = drawn_size (row s);
}

-- the check before the file is written: 12 with the bytes needed
abbrev pub publish_file_verdict : State → Publishing → Verdict PublishReport
publish_file_verdict s p =
    if nat_lt (length p.file) (publishing_size s p) then refusal 12 (publishing_size s p ∷ [])
    else Ok (publishing_report s p)

-- the verdict on a publishing: 7, 8, 9, 10, 11, 12
abbrev pub publish_verdict : State → Publishing → Verdict PublishReport
publish_verdict s p = result_and (publish_plan_verdict s p) (publish_file_verdict s p)

-- the pair buffer afterwards: the plan at its front, also where the file has no room, or all as it
-- was
abbrev pub pairs_after_publish : State → Publishing → List Pair
pairs_after_publish s p =
    new_or_old (publish_plan_verdict s p)
    (publishing_plan s p ++ drop (length (publishing_plan s p)) p.pairs) p.pairs

-- the file buffer afterwards: the file at its front, or all as it was
abbrev pub file_after_publish : State → Publishing → List ℕ
file_after_publish s p =
    new_or_old (publish_verdict s p)
    (file_bytes (publishing_file s p) ++ drop (publishing_size s p) p.file) p.file
