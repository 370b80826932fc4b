-- The worked examples of a server, each computed.
use Rattle.std.proofs.Common.{◌≡◌, ℕ, ◌≤◌, ◌<◌, true, false, not, ◌&&◌, List, [], ◌∷◌, length, refl, sym, ap, ap₂, ◌∙◌, lit<, arith}
use Rattle.std.specs.Prelude.{Ok, nat_lt}
use Rattle.std.proofs.lemmas.Bool.{le-ltb, lt-ltb, and_from, not-false}
use Rattle.refusal.specs.Refusals.{Verdict, refusal}
use Rattle.wrap.specs.Calls.{is_working_short}
use Rattle.tree.specs.declared.types.Code.{Code}
use Rattle.tree.specs.declared.types.Code.TheVariants.{Arrives, Departs}
use Rattle.tree.specs.Tree.{is_within, tree_nodes, tree_leaves, inner_nodes}
use Rattle.tree.specs.Rows.{stands_within, is_changed, is_occupied, changed_nodes}
use Rattle.strategy_rules.specs.Rules.{candidates, pairs_for, plan, key_oriented_rule}
use Rattle.server_rules.specs.declared.state.State.{State}
use Rattle.server_rules.specs.States.{row}
use Rattle.cradles.specs.Draws.{arrival_leaves, drawn_size}
use Rattle.server_rules.specs.Calls.{Publishing}
use Rattle.tree.specs.Plans.{StrategyMeaning}
use Rattle.keys.specs.Limits.{is_serial}
use Rattle.server_rules.specs.Notes.{remove_verdict}
use Rattle.cradles.specs.Cradles.{is_cradle}
use Rattle.server_rules.specs.Publishings.{publishing_plan, publishing_size, lent_verdict, publish_file_verdict, publish_verdict}
use Rattle.std.specs.Result.{result_and}
use Rattle.law.specs.Runs.{server_of}
use Rattle.statements.specs.Examples.{first_change, byte_count}
use Rattle.statements.specs.Servers.{IsEnoughForOne, ServerExamplesHold}
use Rattle.server_rules.proofs.Verdicts.{passed}
use Rattle.server_rules.specs.Sound.{IsSoundServer}
use Rattle.law.specs.Law.{AdmitChecks}
use Rattle.statements.specs.Ample.{IsAmpleBy}
use Rattle.statements.proofs.Ample.{few_bytes, ample_plans, plan_passes, publish_passes}
use Rattle.statements.proofs.Changes.{padded_row, sound, first_ready, file_length, last_server, last_row}
use Rattle.statements.proofs.Worked.{one_row}

-- for one arrival, where nobody else is, 256 bytes are drawn
arrival_drawn : drawn_size (padded_row (Arrives ∷ [])) ≡ 256
unfolding padded_row arrival_leaves is_within tree_nodes tree_leaves inner_nodes stands_within is_changed changed_nodes
arrival_drawn = refl

-- for the first change 256 bytes are drawn
one_arrival : drawn_size (row (server_of first_change)) ≡ 256
one_arrival = ap drawn_size one_row ∙ arrival_drawn

-- with enough working bytes and too little material, no further check counts
short_material : (s : State) (p : Publishing) (e : ℕ) → is_working_short p.work ≡ false →
    nat_lt (length p.material) (drawn_size (row s)) ≡ true → drawn_size (row s) ≡ e →
    lent_verdict s p ≡ refusal 10 (e ∷ [])
short_material s p e few lacking h = rw few (rw lacking (ap (λ (k : ℕ). refusal 10 (k ∷ [])) h))

-- the server
abbrev s : State
s = server_of first_change

-- with 255 bytes of material the first change is refused, and the 256 are named
a_byte_short : (p : Publishing) → 512 ≤ length p.work → length p.material ≡ 255 → publish_verdict s p ≡ refusal 10 (256 ∷ [])
a_byte_short p work material =
    let less : length p.material < drawn_size (row s) = omega (arith, material, one_arrival) in
    ap (λ (v : Verdict (Unit {0})). result_and v (publish_file_verdict s p))
    (short_material s p 256 (le-ltb (length p.work) 512 work) (lt-ltb (length p.material) (drawn_size (row s)) less) one_arrival)

-- the key-oriented plan for one arrival, where nobody else is, has 7 pairs
arrival_wraps : length (plan key_oriented_rule (padded_row (Arrives ∷ []))) ≡ 7
unfolding padded_row is_within tree_nodes tree_leaves inner_nodes stands_within is_changed is_occupied changed_nodes candidates pairs_for plan
arrival_wraps = refl

-- with enough for one arrival, epoch 1 is reported, with 7 wraps and 256 bytes drawn
first_epoch : (p : Publishing) → IsEnoughForOne p →
    publish_verdict s p ≡ Ok (record { epoch = 1; wraps = 7; bytes = byte_count p first_change; drawn = 256 })
first_epoch p it =
    let wraps : length (publishing_plan s p) ≡ 7 =
    ap (λ (f : StrategyMeaning). length (f (row s))) it.strategy ∙ ap (λ (r : List Code). length (plan key_oriented_rule r)) one_row ∙ arrival_wraps in
    let enough : drawn_size (row s) ≤ length p.material = omega (arith, it.material, one_arrival) in
    let wide : length (publishing_plan s p) ≤ length p.pairs = omega (arith, it.pairs, wraps) in
    let passes = plan_passes s p refl (lit< tt) it.work enough wide in
    let size : byte_count p first_change ≡ publishing_size s p = file_length first_change first_ready p it.given passes in
    let room : publishing_size s p ≤ length p.file = omega (arith, it.file, size) in
    publish_passes s p refl (lit< tt) it.work enough wide room
    ∙ ap₂ (λ (w b : ℕ). Ok (record { epoch = 1; wraps = w; bytes = b; drawn = drawn_size (row s) })) wraps (sym size)
    ∙ ap (λ (d : ℕ). Ok (record { epoch = 1; wraps = 7; bytes = byte_count p first_change; drawn = d })) one_arrival

-- what is admitted is a serial in range, at a cradle in range
admit_checks : AdmitChecks (λ x c. is_serial x && is_cradle c)
admit_checks s x c ok =
    let a = passed (not (is_serial x)) _ _ _ ok in
    let b = passed (not (is_cradle c)) _ _ _ a.1 in
    and_from (is_serial x) (is_cradle c) (not-false (is_serial x) a.0) (not-false (is_cradle c) b.0)

-- what is enough for any change is enough for the first arrival
ample_enough : (p : Publishing) (L : ℕ) → IsAmpleBy key_oriented_rule L p → IsEnoughForOne p
ample_enough p L a =
    let it = a.ample in
    let passes = ample_plans s one_sound refl (lit< tt) p it in
    let size : byte_count p first_change ≡ publishing_size s p = file_length first_change first_ready p it.given passes in
    record {
      given = it.given;
      strategy = a.strategy;
      work = it.work;
      material = omega (arith, it.material);
      pairs = omega (arith, it.pairs);
      file = omega (arith, size, few_bytes s one_sound refl (lit< tt) p it, it.file);
    }
  where
    one_sound : IsSoundServer s
    one_sound = sound first_change first_ready

-- for the departure of the only member, from cradle 1, 224 bytes are drawn
departure_drawn : drawn_size (padded_row (Departs ∷ [])) ≡ 224
unfolding padded_row arrival_leaves is_within tree_nodes tree_leaves inner_nodes stands_within is_changed changed_nodes
departure_drawn = refl

-- what is answered, reported and drawn in these changes
pub server_examples : ServerExamplesHold
server_examples = record {
  last_cradle = refl;
  no_cradle = refl;
  no_serial = refl;
  admit_checks = admit_checks;
  serial_held = refl;
  cradle_held = refl;
  not_seated = refl;
  nothing_noted = λ p. refl;
  one_arrival = one_arrival;
  a_byte_short = a_byte_short;
  ample_enough = ample_enough;
  first_epoch = first_epoch;
  departing = λ p a. ap (λ s. remove_verdict s 1001) (last_server p a);
  last_drawn = λ p a. ap drawn_size (last_row p a) ∙ departure_drawn;
}
