-- Players as a caller keeps them, in a struct of C, and the calls of such players. Where no player
-- has these numbers, or it has no such call, the call is misuse and changes nothing.
use Rattle.std.specs.Prelude.{if◌then◌else◌, ℕ, ◌+◌, List, length, ◌==◌}
use Rattle.std.specs.Prelude.{Some, None, Ok, Err, Option, option_map}
use Rattle.std.specs.Option.{option_map_or}
use Rattle.refusal.specs.Refusals.{Verdict, new_or_old}
use Rattle.wrap.specs.Meaning.{WrapMeaning}
use Rattle.player_rules.specs.Players.{PlayerNumbers, Player, waiting, seated, wiped}
use Rattle.player_rules.specs.Players.{PlayerCall, read, show, wipe, player_after, ring_after}
use Rattle.player_rules.specs.Players.{read_verdict, show_verdict, wipe_verdict}
use Rattle.climb.specs.Refusals.{bare_verdict}
use Rattle.player.specs.Stored.{player_of, stored_of, restore}
use Rattle.player.specs.declared.any.Stored.{Stored}
use Rattle.nannyseason.specs.Answers.{misuse}

-- the player that the caller keeps, if these are numbers of one
abbrev pub player_in : Stored → Option Player
player_in k = option_map player_of (restore k)

-- the call that reads a file, where its wrap is known
abbrev pub read_call : Option WrapMeaning → List ℕ → List ℕ → Option PlayerCall
read_call w file work = option_map (λ v. read v file work) w

-- what a showing gives by the player's state: only a seated one shows
abbrev pub player_show_verdict : Player → List ℕ → Verdict (List ℕ)
player_show_verdict (waiting s) ring = misuse
player_show_verdict (seated s) ring = show_verdict ring
player_show_verdict (wiped serial) ring = misuse

-- what a call reports by the player's state; a wiped one has no call
abbrev pub player_call_verdict : PlayerCall → Player → List ℕ → Verdict (Unit {0})
player_call_verdict (read w file work) (waiting s) ring =
    bare_verdict (read_verdict s.leaf s.epoch w file work ring)
player_call_verdict (read w file work) (seated s) ring =
    bare_verdict (read_verdict s.leaf (s.epoch + 1) w file work ring)
player_call_verdict (read w file work) (wiped serial) ring = misuse
player_call_verdict show p ring = bare_verdict (player_show_verdict p ring)
player_call_verdict wipe (waiting s) ring = wipe_verdict ring
player_call_verdict wipe (seated s) ring = wipe_verdict ring
player_call_verdict wipe (wiped serial) ring = misuse

-- what comes of a call on a player, where both are known; else `other`
abbrev pub outcome_or :
    {A : Type 0} → Option PlayerCall → Option Player → (PlayerCall → Player → A) → A → A
outcome_or None p outcome other = other
outcome_or (Some c) None outcome other = other
outcome_or (Some c) (Some p) outcome other = outcome c p

-- what a call on the player that a caller keeps reports
abbrev pub stored_call_verdict : Option PlayerCall → Stored → List ℕ → Verdict (Unit {0})
stored_call_verdict call k ring =
    outcome_or call (player_in k) (λ c p. player_call_verdict c p ring) misuse

-- what is kept after it: the player that the call made, where it was done
abbrev pub stored_after_call : Option PlayerCall → Stored → List ℕ → Stored
stored_after_call call k ring =
    outcome_or call (player_in k)
    (λ c p. new_or_old (player_call_verdict c p ring) (stored_of (player_after c p ring)) k) k

-- the ring after it
abbrev pub ring_after_call : Option PlayerCall → Stored → List ℕ → List ℕ
ring_after_call call k ring = outcome_or call (player_in k) (λ c p. ring_after c p ring) ring

-- what a showing gives to a place, which has to have 32 bytes
abbrev pub show_call_verdict : Stored → List ℕ → List ℕ → Verdict (List ℕ)
show_call_verdict k ring place =
    if length place == 32
    then option_map_or (λ p. player_show_verdict p ring) (player_in k) misuse
    else misuse

-- what is kept after an enrolling: a waiting player, where it was done
abbrev pub stored_after_enrol : Verdict PlayerNumbers → Stored → Stored
stored_after_enrol (Ok s) k = stored_of (waiting s)
stored_after_enrol (Err r) k = k
