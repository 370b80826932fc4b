-- Laying pairs one after another.
use Rattle.std.specs.Prelude.{◌+◌, List, fold, slice_set}
use Rattle.tree.specs.declared.types.Pair.{Pair}
use Rattle.strategies.specs.declared.writer.PairList.{PairList}

-- one pair more, in its place; where that is past the room, the pair is only counted
abbrev pub with_pair : PairList → Pair → PairList
with_pair list p = record list {
  room = record list.room { now = slice_set list.room.now list.count p };
  count = list.count + 1;
}

-- the pairs behind those of the list, each in its place
abbrev pub with_pairs : PairList → List Pair → PairList
with_pairs list pairs = fold with_pair list pairs
