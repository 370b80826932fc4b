-- Worked examples of changes: how many pairs their plans have, and how many bytes their files.
-- Calls are listed the newest first.
use Rattle.std.specs.Prelude.{◌≡◌, ℕ, zero, suc, List, [], ◌∷◌, map, length, Contains}
use Rattle.tree.specs.Rows.{changed_nodes}
use Rattle.strategy_rules.specs.Rules.{Rule, plan, star_rule, key_oriented_rule}
use Rattle.file_rules.specs.Files.{file_bytes}
use Rattle.server_rules.specs.States.{row}
use Rattle.server_rules.specs.Calls.{Publishing, Call, admit, remove, publish}
use Rattle.server_rules.specs.Publishings.{publishing_file}
use Rattle.law.specs.Runs.{server_of}
use Rattle.statements.specs.Ample.{IsAmple, IsAmpleBy, three_rules}

-- Calls that lead to a change: after them it is noted, and not yet published.

-- cradle 1 is filled
abbrev pub first_change : List Call
first_change = admit 1001 1 ∷ []

-- that was published, and cradle 2 is filled
abbrev pub second_change : Publishing → List Call
second_change p = admit 1002 2 ∷ publish p ∷ first_change

-- that was published too, and cradle 1 is emptied
abbrev pub third_change : Publishing → Publishing → List Call
third_change p q = remove 1001 ∷ publish q ∷ second_change p

-- cradles 1 to 4 were filled at once, and cradle 1 is emptied
abbrev pub change_of_four : Publishing → List Call
change_of_four p =
    remove 1001 ∷ publish p ∷ admit 1004 4 ∷ admit 1003 3 ∷ admit 1002 2 ∷ admit 1001 1 ∷ []

-- cradle 1 alone was filled, and it is emptied
abbrev pub last_change : Publishing → List Call
last_change p = remove 1001 ∷ publish p ∷ first_change

-- scanner 1 arrives at cradle 1, scanner 2 at cradle 2, and so on up to that number
abbrev pub arrival_calls : ℕ → List Call
arrival_calls zero = []
arrival_calls (suc k) = admit (suc k) (suc k) ∷ arrival_calls k

-- how many pairs a rule's plan then has
abbrev pub pair_count : Rule → List Call → ℕ
pair_count rule calls = length (plan rule (row (server_of calls)))

-- how many bytes the file has that a publishing then writes
abbrev pub byte_count : Publishing → List Call → ℕ
byte_count p calls = length (file_bytes (publishing_file (server_of calls) p))

-- the three changes, one after the other
abbrev pub three_changes : Publishing → Publishing → List (List Call)
three_changes p q = first_change ∷ second_change p ∷ third_change p q ∷ []

-- the pairs and bytes of these changes
pub record ChangeExamplesHold : Type 0 where
  -- cradle 1 is filled, then 2, then 1 is emptied
  pub few_pairs : (p q : Publishing) → IsAmple p → IsAmple q →
      map (pair_count key_oriented_rule) (three_changes p q) ≡ 7 ∷ 14 ∷ 7 ∷ []
  -- by the key-oriented strategy, with wraps of 40 bytes
  pub few_bytes : (p q r : Publishing) → IsAmple p → IsAmple q → IsAmpleBy key_oriented_rule 40 r →
      map (byte_count r) (three_changes p q) ≡ 339 ∷ 661 ∷ 339 ∷ []
  -- cradles 1 to 4 are seated, and cradle 1 leaves
  pub one_of_four : (p : Publishing) → IsAmple p →
      map (λ rule. pair_count rule (change_of_four p)) three_rules ≡ 19 ∷ 13 ∷ 8 ∷ []
  -- 128 arrivals at once
  pub full_house :
      map (λ rule. pair_count rule (arrival_calls 128)) (star_rule ∷ key_oriented_rule ∷ [])
      ≡ 896 ∷ 254 ∷ []
  -- by the star, with wraps of 48 bytes
  pub full_bytes : (r : Publishing) → IsAmpleBy star_rule 48 r →
      byte_count r (arrival_calls 128) ≡ 48521
  -- the last member leaves: 7 nodes change, and nothing is wrapped
  pub last_nodes : (p : Publishing) → IsAmple p →
      length (changed_nodes (row (server_of (last_change p)))) ≡ 7
  pub last_pairs : (p : Publishing) → IsAmple p →
      map (λ rule. pair_count rule (last_change p)) three_rules ≡ 0 ∷ 0 ∷ 0 ∷ []
  -- by any of the three strategies, with any wrap
  pub last_bytes : (p r : Publishing) (rule : Rule) (L : ℕ) → IsAmple p →
      Contains three_rules rule → IsAmpleBy rule L r → byte_count r (last_change p) ≡ 17
