use Rattle.std.proofs.Common.{◌≡◌, ◌+◌, ◌-◌, sym, ◌∙◌, arith}
use Rattle.std.proofs.lemmas.Result.{err_from_is_err_and}
use Rattle.layout.proofs.Whole.{head_answer, nodes_answer, count_answer, wraps_answer, head_stops, nodes_stop, count_stops, wraps_decide}
use Rattle.layout.proofs.sections.check_file.Goals as goal
use Rattle.layout.proofs.sections.check_file.Goals.{After-head, After-nodes, After-count, After-wraps}

-- the check of the head, at the beginning of the file
head : (c : After-head) → c.head.result ≡ head_answer c.args.kind c.args.sealed_len c.args.bytes.now 0 0
head c = rw c.new-file.ensures.bytes at (c.head.ensures c.new-file.ensures.first).answer

-- the check of the changed nodes, behind the head
nodes : (c : After-nodes) →
    c.nodes.result ≡ nodes_answer c.args.kind c.args.sealed_len c.args.bytes.now c.in_ok-epoch.epoch c.in_ok-epoch.count
nodes c =
    let first = c.new-file.ensures.first in
    let same : c.head.new.self.bytes.now ≡ c.args.bytes.now = (c.head.ensures first).same ∙ c.new-file.ensures.bytes in
    let at : c.head.new.self.at ≡ 8 = omega (arith, (c.in_ok-epoch.ensures first).moved) in
    rw (same, at) at c.nodes.ensures.answer

-- the check of the number of wraps, behind the changed nodes
count : (c : After-count) →
    c.count.result ≡ count_answer c.args.kind c.args.sealed_len c.args.bytes.now c.in_ok-epoch.epoch c.in_ok-epoch.count
count c =
    let first = c.new-file.ensures.first in
    let same : c.nodes.new.self.bytes.now ≡ c.args.bytes.now =
    c.nodes.ensures.same ∙ (c.head.ensures first).same ∙ c.new-file.ensures.bytes in
    let at : c.nodes.new.self.at ≡ 8 + c.in_ok-epoch.count =
    omega (arith, (c.in_ok-epoch.ensures first).moved, c.in_ok-nodes.ensures.moved) in
    rw (same, at) at c.count.ensures.answer

-- the check of the wraps, behind their number
wraps : (c : After-wraps) →
    c.wraps.result ≡
    wraps_answer c.args.kind c.args.sealed_len c.args.bytes.now c.in_ok-epoch.epoch c.in_ok-epoch.count c.in_ok-wraps.wraps
wraps c =
    let first = c.new-file.ensures.first in
    let same : c.count.new.self.bytes.now ≡ c.args.bytes.now =
    c.count.ensures.same ∙ c.nodes.ensures.same ∙ (c.head.ensures first).same ∙ c.new-file.ensures.bytes in
    let start : c.head.new.self.at ≡ 8 = omega (arith, (c.in_ok-epoch.ensures first).moved) in
    let many : c.nodes.new.self.at - c.head.new.self.at ≡ c.in_ok-epoch.count = omega (arith, c.in_ok-nodes.ensures.moved) in
    let at : c.count.new.self.at ≡ 10 + c.in_ok-epoch.count =
    omega (arith, start, c.in_ok-nodes.ensures.moved, c.in_ok-wraps.ensures.moved) in
    rw (same, many, start, at) at c.wraps.ensures

pub returns-in_err-epoch : goal.returns-in_err-epoch
returns-in_err-epoch c =
    let at = goal.at.returns-in_err-epoch c in
    let p = err_from_is_err_and c.from_residual.result c.from_residual.ensures.1 in
    let refused = sym (head at.After-head) ∙ c.in_err-epoch.was in
    rw (p.1, p.2) (head_stops c.args.kind c.args.sealed_len c.args.bytes.now 0 0 _ refused)

pub returns-in_err-nodes : goal.returns-in_err-nodes
returns-in_err-nodes c =
    let at = goal.at.returns-in_err-nodes c in
    let p = err_from_is_err_and c.from_residual-in_err-nodes.result c.from_residual-in_err-nodes.ensures.1 in
    let head_passed = sym (head at.After-head) ∙ c.in_ok-epoch.was in
    let refused = sym (nodes at.After-nodes) ∙ c.in_err-nodes.was in
    rw (p.1, p.2)
    (nodes_stop c.args.kind c.args.sealed_len c.args.bytes.now c.in_ok-epoch.epoch c.in_ok-epoch.count _ head_passed refused)

pub returns-in_err-wraps : goal.returns-in_err-wraps
returns-in_err-wraps c =
    let at = goal.at.returns-in_err-wraps c in
    let p = err_from_is_err_and c.from_residual-in_err-wraps.result c.from_residual-in_err-wraps.ensures.1 in
    let head_passed = sym (head at.After-head) ∙ c.in_ok-epoch.was in
    let nodes_passed = sym (nodes at.After-nodes) ∙ c.in_ok-nodes.was in
    let refused = sym (count at.After-count) ∙ c.in_err-wraps.was in
    rw (p.1, p.2)
    (count_stops c.args.kind c.args.sealed_len c.args.bytes.now c.in_ok-epoch.epoch c.in_ok-epoch.count _
    head_passed nodes_passed refused)

pub returns : goal.returns
returns c =
    let at = goal.at.returns c in
    let head_passed = sym (head at.After-head) ∙ c.in_ok-epoch.was in
    let nodes_passed = sym (nodes at.After-nodes) ∙ c.in_ok-nodes.was in
    let count_passed = sym (count at.After-count) ∙ c.in_ok-wraps.was in
    wraps at.After-wraps
    ∙ wraps_decide c.args.kind c.args.sealed_len c.args.bytes.now c.in_ok-epoch.epoch c.in_ok-epoch.count c.in_ok-wraps.wraps
    head_passed nodes_passed count_passed
