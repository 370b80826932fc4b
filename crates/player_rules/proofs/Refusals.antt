-- A refused call of a player leaves it and its ring as they were.
use Rattle.std.proofs.Common.{◌≡◌, ℕ, ◌+◌, true, List, Ok, Err, refl}
use Rattle.std.specs.Result.{is_err}
use Rattle.std.proofs.lemmas.Bool.{false≢true}
use Rattle.refusal.specs.Refusals.{Verdict, new_or_old}
use Rattle.keys.specs.declared.NodeKey.{NodeKey}
use Rattle.player_rules.specs.Players.{read_verdict, ring_or, wipe_verdict, PlayerCall, read, show, wipe, Player, waiting, seated, wiped, is_player_refused}
use Rattle.player_rules.specs.Players.{player_after, ring_after}

-- what a refusal leaves
old_left : {A B : Type 0} (v : Verdict A) (new old : B) → is_err v ≡ true → new_or_old v new old ≡ old
old_left (Ok a) new old e = absurd (false≢true e)
old_left (Err f) new old e = refl

-- the ring that a refusal leaves
ring_left : (v : Verdict (List NodeKey)) (ring : List ℕ) → is_err v ≡ true → ring_or v ring ≡ ring
ring_left (Ok entries) ring e = absurd (false≢true e)
ring_left (Err f) ring e = refl

-- a reading, of either player that reads
read_left : (v : Verdict (List NodeKey)) (new old : Player) (ring : List ℕ) → is_err v ≡ true →
    (new_or_old v new old ≡ old) × (ring_or v ring ≡ ring)
read_left v new old ring e = (old_left v new old e, ring_left v ring e)

-- a refused call leaves player and ring as they were
pub refused_keeps : (a : PlayerCall) (p : Player) (ring : List ℕ) → is_player_refused a p ring ≡ true →
    (player_after a p ring ≡ p) × (ring_after a p ring ≡ ring)
refused_keeps (read w file work) (waiting s) ring e = read_left (read_verdict s.leaf s.epoch w file work ring) _ _ ring e
refused_keeps (read w file work) (seated s) ring e = read_left (read_verdict s.leaf (s.epoch + 1) w file work ring) _ _ ring e
refused_keeps (read w file work) (wiped x) ring e = (refl, refl)
refused_keeps show p ring e = (refl, refl)
refused_keeps wipe (waiting s) ring e = (old_left (wipe_verdict ring) _ _ e, old_left (wipe_verdict ring) _ _ e)
refused_keeps wipe (seated s) ring e = (old_left (wipe_verdict ring) _ _ e, old_left (wipe_verdict ring) _ _ e)
refused_keeps wipe (wiped x) ring e = (refl, refl)
