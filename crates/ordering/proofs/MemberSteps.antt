-- What the iterator of the members gives, of the first member from a place on.
-- Assumes nothing.
use Prim.Native.Nat.{ℕ, ◌+◌, ◌-◌, ◌<◌}
use mathlib.Core.Path.{◌≡◌, refl, ap}
use mathlib.Core.Bool.{Bool, true, false}
use mathlib.Core.List.{◌∷◌}
use native.Mathlib.Omega.{arith}
use lib.Dec.{ltb}
use lib.ListN.{length}
use borrow.Author.Tests.{ltb-true, ltb-false}
use Rattle.std.specs.Bool.{then_some}
use Rattle.std.specs.Prelude.{None, Some}
use Rattle.std.specs.Iterator.{MakesProgress, item_count}
use Rattle.laws.proofs.Lists.{numbers-empty}
use Rattle.readyset.specs.Sets.{member, First}
use Rattle.ordering.specs.declared.members.Members.{Members}
use Rattle.ordering.specs.Areas.{RestIs}
use Rattle.ordering.specs.Members.{members_left, Going, GivesMember}
use Rattle.ordering.proofs.Scan.{first-none, first_some}

pub gives_none : (m : Members) → First (member m.set.now) m.from m.nodes m.nodes → GivesMember m None m
gives_none m first =
    let none = first-none (member m.set.now) m.nodes m.from m.nodes first (omega arith) in
    record { first = (none, none); same_nodes = refl; below = tt }

module _ (m : Members) (going : Going m) (node rest : ℕ) (first : First (member m.set.now) m.from m.nodes node) (rest_is : RestIs m.set.now (node + 1) rest) where
  abbrev after : Members
  after = record { set = m.set; nodes = m.nodes; from = node + 1; rest = rest }

  left : node < m.nodes → members_left m ≡ node ∷ members_left after
  left h = first_some (member m.set.now) m.nodes m.from node first h

  pub gives_some : node < m.nodes → GivesMember m (Some node) after
  gives_some h = record { first = left h; same_nodes = refl; below = h }

  pub goes_some : node < m.nodes → MakesProgress Going (item_count members_left) m (Some node) after
  goes_some h =
      let g : Going after = record { words = going.words; room = going.room; within = omega arith; levels = going.levels; rest_is = rest_is } in
      record { on = λ _. (g, tt, omega (arith, ap length (left h))); keeps = g; rests = λ _. tt }

  -- the same where it is tested to be below the count of nodes
  pub gives_or : GivesMember m (then_some (ltb node m.nodes) node) after
  gives_or = go (ltb node m.nodes) refl
    where
      go : (t : Bool) → ltb node m.nodes ≡ t → GivesMember m (then_some t node) after
      go true e = gives_some (ltb-true _ _ e)
      go false e =
          let l = ltb-false _ _ e in
          record { first = (first-none (member m.set.now) m.nodes m.from node first l, numbers-empty (member m.set.now) (node + 1) (m.nodes - (node + 1)) (λ j a b. absurd (omega arith))); same_nodes = refl; below = tt }

  pub goes_or : MakesProgress Going (item_count members_left) m (then_some (ltb node m.nodes) node) after
  goes_or = go (ltb node m.nodes) refl
    where
      go : (t : Bool) → ltb node m.nodes ≡ t → MakesProgress Going (item_count members_left) m (then_some t node) after
      go true e = goes_some (ltb-true _ _ e)
      go false e = record { on = λ _. tt; keeps = tt; rests = λ _. tt }
