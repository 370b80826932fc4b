use Rattle.std.proofs.Common.{◌≡◌}
use Rattle.file_reader.specs.Wraps.{wraps_left}
use Rattle.climb.proofs.Finds.{openable_placed, all_wraps}
use Rattle.climb.proofs.search.openable_wrap.Given as goal

-- what is found among the wraps that are left is what is found in the file
abbrev pub invariant-loop-wrap : goal.invariant-loop-wrap
invariant-loop-wrap l =
    (goal.iterator-loop-wrap).can_next l.wrap-iterator
    × ((goal.iterator-loop-wrap).is_finite l.wrap-iterator
    × (openable_placed l.ring.entries l.leaf l.node (wraps_left l.wrap-iterator)
    ≡ openable_placed l.ring.entries l.leaf l.node (all_wraps l.ring.entries l.leaf l.node l.file.sealed_len l.file.bytes.now)))
