use Rattle.std.proofs.Common.{◌≡◌, ◌+◌}
use Rattle.file_rules.specs.Fields.{fault_in}
use Rattle.file_rules.specs.Layout.{node_fields}
use Rattle.layout.proofs.cursor.Cursor.nodes.Given as goal

-- the fault of the nodes that are left is the fault of all
abbrev pub invariant-loop-left : goal.invariant-loop-left
invariant-loop-left l = record {
  same : l.self.bytes.now ≡ l.initial.self.bytes.now;
  moved : l.self.at + l.left ≡ l.initial.self.at + l.count;
  rest :
      fault_in l.self.bytes.now (node_fields l.self.bytes.now l.self.at l.before l.left) ≡
      fault_in l.initial.self.bytes.now (node_fields l.initial.self.bytes.now l.initial.self.at 128 l.count);
}
