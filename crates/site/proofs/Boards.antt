-- A player that is enrolled begins its course, and reading keeps it there.
use Rattle.std.proofs.Common.{◌≡◌, ℕ, ◌+◌, ◌≤◌, List, [], true, not, ◌&&◌, Ok, Err, length, is_err, sym, subst}
use Rattle.std.proofs.Math.Logic.{∥∥₁_map}
use Rattle.refusal.specs.Refusals.{Verdict, new_or_old}
use Rattle.keys.specs.declared.NodeKey.{NodeKey}
use Rattle.wrap.specs.Meaning.{WrapMeaning}
use Rattle.player_rules.specs.Players.{PlayerNumbers, Player, waiting, seated, wiped, read, read_verdict, ring_or, enrol_verdict, ring_after_enrol}
use Rattle.player_rules.specs.Players.{player_after, ring_after}
use Rattle.player.specs.declared.any.AnyPlayer.{AnyPlayer}
use Rattle.player.specs.declared.any.AnyPlayer.TheVariants as any
use Rattle.player.specs.Stored.{player_of}
use Rattle.law.specs.Runs.{Edition}
use Rattle.law.specs.Players.{Course}
use Rattle.law.specs.Players as courses
use Rattle.site.specs.Boards.{IsOnCourse, StaysOnCourse}

-- a reading that is accepted seats the player, and one that is refused leaves it where it was
read_on : (card : List ℕ) (p : Player) (ring : List ℕ) → IsOnCourse card p ring → (files : List Edition) (s : PlayerNumbers) (v : Verdict (List NodeKey)) →
    Course card files (true && not (is_err v)) (new_or_old v (seated s) p) (ring_or v ring) →
    IsOnCourse card (new_or_old v (seated s) p) (ring_or v ring)
read_on card p ring same files s (Ok entries) course = (files, course)
read_on card p ring same files s (Err f) course = same

-- any file is an edition
abbrev any_edition : WrapMeaning → List ℕ → Edition
any_edition w file = record { notice = record { epoch = 0; wraps = 0; bytes = 0; drawn = 0 }; wrap = w; drawn = []; bytes = file }

-- a player that reads, whatever it is and whatever it is given, stays on its course
on_after_read : (w : WrapMeaning) (file work : List ℕ) → 512 ≤ length work → (card : List ℕ) (p : Player) (ring : List ℕ) →
    IsOnCourse card p ring → IsOnCourse card (player_after (read w file work) p ring) (ring_after (read w file work) p ring)
on_after_read w file work big card (waiting s) ring is =
    read_on card (waiting s) ring is _ s (read_verdict s.leaf s.epoch w file work ring) (courses.handed (any_edition w file) work big is.1)
on_after_read w file work big card (seated s) ring is =
    read_on card (seated s) ring is _ (record s { epoch = s.epoch + 1 })
    (read_verdict s.leaf (s.epoch + 1) w file work ring) (courses.handed (any_edition w file) work big is.1)
on_after_read w file work big card (wiped x) ring is = is

-- a player that is enrolled
pub on_when_enrolled : (card ring left : List ℕ) (s : PlayerNumbers) (p : AnyPlayer) → p ≡ any.Waiting s →
    enrol_verdict card ring ≡ Ok s → left ≡ ring_after_enrol card ring → ∥ IsOnCourse card (player_of p) left ∥₁
on_when_enrolled card ring left s p is accepted written =
    ∣ subst (λ q. IsOnCourse card (player_of q) left) (sym is)
    (subst (λ r. IsOnCourse card (waiting s) r) (sym written) ([], courses.enrolled ring s accepted)) ∣₁

-- a player that has read
pub stays_after_read : (w : WrapMeaning) (file work : List ℕ) → 512 ≤ length work → (p q : Player) (ring left : List ℕ) →
    q ≡ player_after (read w file work) p ring → left ≡ ring_after (read w file work) p ring → StaysOnCourse p ring q left
stays_after_read w file work big p q ring left moved written card on =
    ∥∥₁_map on (λ is.
    subst (λ x. IsOnCourse card x left) (sym moved) (subst (λ r. IsOnCourse card (player_after (read w file work) p ring) r) (sym written)
    (on_after_read w file work big card p ring is)))
