use Rattle.std.proofs.Common.{◌≡◌, ◌-◌}
use Rattle.file_rules.specs.Fields.{fault_in}
use Rattle.file_rules.specs.Layout.{wraps_fields}
use Rattle.layout.proofs.cursor.Cursor.wraps.Given as goal

-- the fault of the wraps that are left is the fault of all
abbrev pub invariant-loop : goal.invariant-loop
invariant-loop l = record {
  same : l.self.bytes.now ≡ l.initial.self.bytes.now;
  rest :
      fault_in l.self.bytes.now
      (wraps_fields l.head.sealed_len l.head.epoch l.head.nodes.now l.self.bytes.now l.self.at (l.count - l.counter)) ≡
      fault_in l.initial.self.bytes.now
      (wraps_fields l.head.sealed_len l.head.epoch l.head.nodes.now l.initial.self.bytes.now l.initial.self.at l.count);
}
