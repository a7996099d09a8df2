use Prim.Native.Nat.{◌/◌}
use Rattle.ordering.proofs.Seeing.{seen_here, seen_rest, fresh_rest}
use Rattle.ordering.proofs.MemberSteps.{gives_none, goes_some, gives_some, gives_or, goes_or}
use Rattle.ordering.proofs.picking.MembersIterator.next.Goals as goal

pub returns-then-rest-ne0-clause-steps : goal.returns-then-rest-ne0-clause-steps
returns-then-rest-ne0-clause-steps c =
    let m = c.args.self.now in let g = c.requires in
    rw c.then_some.ensures (gives_or m g _ _ (seen_here m.set.now m.nodes m.from m.rest g.rest_is c.if-rest-ne0.true (g.words (m.from / 64))) (seen_rest m.set.now m.nodes m.from m.rest g.rest_is c.if-rest-ne0.true (g.words (m.from / 64))))

pub returns-then-rest-ne0-clause-goes : goal.returns-then-rest-ne0-clause-goes
returns-then-rest-ne0-clause-goes c =
    let m = c.args.self.now in let g = c.requires in
    rw c.then_some.ensures (goes_or m g _ _ (seen_here m.set.now m.nodes m.from m.rest g.rest_is c.if-rest-ne0.true (g.words (m.from / 64))) (seen_rest m.set.now m.nodes m.from m.rest g.rest_is c.if-rest-ne0.true (g.words (m.from / 64))))

pub returns-in_err-node-clause-steps : goal.returns-in_err-node-clause-steps
returns-in_err-node-clause-steps c = rw c.from_residual.ensures (gives_none c.args.self.now c.in_err-node.ensures)

pub returns-clause-steps : goal.returns-clause-steps
returns-clause-steps c =
    let m = c.args.self.now in
    gives_some m c.requires _ _ c.in_ok-node.ensures.1 (fresh_rest m.set.now c.in_ok-node.node (c.requires.words (c.in_ok-node.node / 64))) c.in_ok-node.ensures.0

pub returns-clause-goes : goal.returns-clause-goes
returns-clause-goes c =
    let m = c.args.self.now in
    goes_some m c.requires _ _ c.in_ok-node.ensures.1 (fresh_rest m.set.now c.in_ok-node.node (c.requires.words (c.in_ok-node.node / 64))) c.in_ok-node.ensures.0
