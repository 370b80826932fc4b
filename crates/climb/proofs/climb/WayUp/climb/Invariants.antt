use Rattle.std.proofs.Common.{◌≡◌}
use Rattle.player_rules.specs.Climbs.{ring_after_file}
use Rattle.climb.specs.Finds.{checked_rekey}
use Rattle.climb.proofs.Climbing.{ring_from_level}
use Rattle.climb.proofs.climb.WayUp.climb.Given as goal

abbrev pub invariant-loop-k : goal.invariant-loop-k
invariant-loop-k g l =
    ring_from_level g.W.Wrap.meaning (checked_rekey l.self.file) l.self.leaf l.k l.ring.entries
    ≡ ring_after_file g.W.Wrap.meaning (checked_rekey l.self.file) l.self.leaf l.initial.ring.entries
