-- The worked examples of plans and files, each computed.
use Rattle.std.proofs.Common.{◌≡◌, ℕ, zero, suc, List, [], ◌∷◌, map, length, get_or, replicate, refl, ap, ap₂, ◌∙◌, inl, inr, lit<, arith}
use Rattle.tree.specs.declared.types.Code.{Code}
use Rattle.tree.specs.declared.types.Code.TheVariants.{Stays, Arrives, Departs}
use Rattle.tree.specs.Tree.{is_within, tree_nodes, tree_leaves, inner_nodes}
use Rattle.tree.specs.Rows.{stands_within, is_changed, is_occupied, changed_nodes}
use Rattle.tree.proofs.Members.{In, contains_in}
use Rattle.strategy_rules.specs.Rules.{Rule, candidates, pairs_for, plan, star_rule, key_oriented_rule}
use Rattle.file_rules.specs.Files.{file_size}
use Rattle.server_rules.specs.States.{row}
use Rattle.server_rules.specs.Calls.{Publishing}
use Rattle.law.specs.Runs.{AllGivenLawfully, server_of}
use Rattle.statements.specs.Ample.{IsAmple, IsAmpleBy, three_rules}
use Rattle.statements.specs.Examples.{first_change, second_change, third_change, three_changes, change_of_four, last_change, arrival_calls}
use Rattle.statements.specs.Examples.{pair_count, byte_count, ChangeExamplesHold}
use Rattle.statements.proofs.Changes as changes
use Rattle.statements.proofs.Changes.{padded_row, by_row, first_ready}

-- how many pairs a rule plans for a row
abbrev plan_length : Rule → List Code → ℕ
plan_length rule codes = length (plan rule codes)

-- cradle 1 is filled, then 2, then 1 is emptied
abbrev three_rows : List (List Code)
three_rows = padded_row (Arrives ∷ []) ∷ padded_row (Stays ∷ Arrives ∷ []) ∷ padded_row (Departs ∷ Stays ∷ []) ∷ []

-- the key-oriented plans for these rows have 7, 14 and 7 pairs
few_count : map (plan_length key_oriented_rule) three_rows ≡ 7 ∷ 14 ∷ 7 ∷ []
unfolding padded_row is_within tree_nodes tree_leaves inner_nodes stands_within is_changed is_occupied changed_nodes candidates pairs_for plan
few_count = refl

-- in the first change somebody arrives at cradle 1, and nobody is elsewhere
pub one_row : row (server_of first_change) ≡ padded_row (Arrives ∷ [])
unfolding padded_row
one_row = refl

-- lists of three numbers are the same where each of the numbers is
three_same : {a b c d e f : ℕ} → a ≡ d → b ≡ e → c ≡ f → a ∷ b ∷ c ∷ [] ≡ d ∷ e ∷ f ∷ []
three_same p q r = ap₂ (λ x y. x ∷ y) p (ap₂ (λ x y. x ∷ y ∷ []) q r)

-- the key-oriented plans for the three changes have 7, 14 and 7 pairs
few_pairs : (p q : Publishing) → IsAmple p → IsAmple q → map (pair_count key_oriented_rule) (three_changes p q) ≡ 7 ∷ 14 ∷ 7 ∷ []
few_pairs p q a b =
    three_same (planned one_row) (planned (changes.second_row p a)) (planned (changes.third_row p q a b)) ∙ few_count
  where
    planned : {s t : List Code} → s ≡ t → plan_length key_oriented_rule s ≡ plan_length key_oriented_rule t
    planned e = ap (plan_length key_oriented_rule) e

-- with wraps of 40 bytes, the files for these rows have 339, 661 and 339 bytes
few_sizes : map (λ codes. file_size 40 (length (changed_nodes codes)) (plan_length key_oriented_rule codes)) three_rows ≡ 339 ∷ 661 ∷ 339 ∷ []
unfolding padded_row is_within tree_nodes tree_leaves inner_nodes stands_within is_changed is_occupied changed_nodes candidates pairs_for plan
few_sizes = refl

-- with wraps of 40 bytes, the files for the three changes have 339, 661 and 339 bytes
few_bytes : (p q r : Publishing) → IsAmple p → IsAmple q → IsAmpleBy key_oriented_rule 40 r →
    map (byte_count r) (three_changes p q) ≡ 339 ∷ 661 ∷ 339 ∷ []
few_bytes p q r a b c =
    three_same (by_row first_change first_ready r c one_row)
    (by_row (second_change p) (changes.second_ready p a) r c (changes.second_row p a))
    (by_row (third_change p q) (changes.third_ready p q a b) r c (changes.third_row p q a b))
    ∙ few_sizes

-- for a row in which one of four departs, the three rules plan 19, 13 and 8 pairs
four_count : map (λ rule. plan_length rule (padded_row (Departs ∷ Stays ∷ Stays ∷ Stays ∷ []))) three_rules ≡ 19 ∷ 13 ∷ 8 ∷ []
unfolding padded_row is_within tree_nodes tree_leaves inner_nodes stands_within is_changed is_occupied changed_nodes candidates pairs_for plan
four_count = refl

-- when one of four members leaves, the three rules plan 19, 13 and 8 pairs
one_of_four : (p : Publishing) → IsAmple p → map (λ rule. pair_count rule (change_of_four p)) three_rules ≡ 19 ∷ 13 ∷ 8 ∷ []
one_of_four p a = ap (λ (r : List Code). map (λ rule. plan_length rule r) three_rules) (changes.four_row p a) ∙ four_count

-- after 128 admissions somebody arrives at each cradle
full_row : row (server_of (arrival_calls 128)) ≡ replicate 128 Arrives
full_row = refl

-- for a row of 128 arrivals the star plans 896 pairs, the key-oriented rule 254
full_count : plan_length star_rule (replicate 128 Arrives) ∷ plan_length key_oriented_rule (replicate 128 Arrives) ∷ [] ≡ 896 ∷ 254 ∷ []
unfolding is_within tree_nodes tree_leaves inner_nodes stands_within is_changed is_occupied changed_nodes candidates pairs_for plan
full_count = refl

-- for 128 arrivals at once the star plans 896 pairs, the key-oriented rule 254
full_house : map (λ rule. pair_count rule (arrival_calls 128)) (star_rule ∷ key_oriented_rule ∷ []) ≡ 896 ∷ 254 ∷ []
full_house = ap (λ (r : List Code). plan_length star_rule r ∷ plan_length key_oriented_rule r ∷ []) full_row ∙ full_count

-- with 128 arrivals each of the 127 inner nodes changes
all_change : length (changed_nodes (replicate 128 Arrives)) ≡ 127
unfolding is_within tree_nodes tree_leaves inner_nodes stands_within is_changed changed_nodes
all_change = refl

-- any number of admissions is lawfully given
arrivals_given : (k : ℕ) → AllGivenLawfully (arrival_calls k)
arrivals_given zero = tt
arrivals_given (suc k) = (tt, arrivals_given k)

-- by the star, with wraps of 48 bytes, the file for 128 arrivals has 48521 bytes
full_bytes : (r : Publishing) → IsAmpleBy star_rule 48 r → byte_count r (arrival_calls 128) ≡ 48521
full_bytes r c =
    by_row (arrival_calls 128) (record { given = arrivals_given 128; noted = refl; early = lit< tt }) r c full_row
    ∙ ap₂ (file_size 48) all_change (ap (λ (l : List ℕ). get_or l 0 0) full_count)

-- for a row in which the only member departs, none of the three rules plans a pair
last_count : map (λ rule. plan_length rule (padded_row (Departs ∷ []))) three_rules ≡ 0 ∷ 0 ∷ 0 ∷ []
unfolding padded_row is_within tree_nodes tree_leaves inner_nodes stands_within is_changed is_occupied changed_nodes candidates pairs_for plan
last_count = refl

-- where the only member departs, from cradle 1, 7 nodes change
departure_changes : length (changed_nodes (padded_row (Departs ∷ []))) ≡ 7
unfolding padded_row is_within tree_nodes tree_leaves inner_nodes stands_within is_changed changed_nodes
departure_changes = refl

-- when the last member leaves, 7 nodes change
last_nodes : (p : Publishing) → IsAmple p → length (changed_nodes (row (server_of (last_change p)))) ≡ 7
last_nodes p a = ap (λ (r : List Code). length (changed_nodes r)) (changes.last_row p a) ∙ departure_changes

-- when the last member leaves, none of the three rules plans a pair
last_pairs : (p : Publishing) → IsAmple p → map (λ rule. pair_count rule (last_change p)) three_rules ≡ 0 ∷ 0 ∷ 0 ∷ []
last_pairs p a = ap (λ (r : List Code). map (λ rule. plan_length rule r) three_rules) (changes.last_row p a) ∙ last_count

-- the same of each of the three rules
nothing_planned : (rule : Rule) → In rule three_rules → plan_length rule (padded_row (Departs ∷ [])) ≡ 0
nothing_planned rule (inl e) = rw e (ap (λ (l : List ℕ). get_or l 0 0) last_count)
nothing_planned rule (inr (inl e)) = rw e (ap (λ (l : List ℕ). get_or l 1 0) last_count)
nothing_planned rule (inr (inr (inl e))) = rw e (ap (λ (l : List ℕ). get_or l 2 0) last_count)
nothing_planned rule (inr (inr (inr other))) = absurd other

-- a file of 7 nodes and no wraps has 17 bytes, however long a wrap is
no_wraps : (L : ℕ) → file_size L 7 0 ≡ 17
no_wraps L = omega arith

-- when the last member leaves, the file has 17 bytes
last_bytes : (p r : Publishing) (rule : Rule) (L : ℕ) → IsAmple p → In rule three_rules → IsAmpleBy rule L r →
    byte_count r (last_change p) ≡ 17
last_bytes p r rule L a i c =
    by_row (last_change p) (changes.last_ready p a) r c (changes.last_row p a)
    ∙ ap₂ (file_size L) departure_changes (nothing_planned rule i)
    ∙ no_wraps L

-- the pairs and bytes of these changes
pub examples : ChangeExamplesHold
examples = record {
  few_pairs = few_pairs;
  few_bytes = few_bytes;
  one_of_four = one_of_four;
  full_house = full_house;
  full_bytes = full_bytes;
  last_nodes = last_nodes;
  last_pairs = last_pairs;
  last_bytes = λ p r rule L a i c. last_bytes p r rule L a (contains_in three_rules rule i) c;
}
