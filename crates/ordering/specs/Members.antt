-- What the iterator of a set's members has yet to give, and what each step gives.
-- Assumes nothing.
use Rattle.std.specs.Prelude.{ℕ, ◌-◌, ◌^◌, ◌<◌, ◌≤◌, ◌≡◌, List, length, get_or, Option, IfSome}
use Rattle.std.specs.Iterator.{YieldsFirst}
use Rattle.laws.specs.Lists.{numbers}
use Rattle.readyset.specs.Sets.{member, Levels}
use Rattle.ordering.specs.Areas.{RestIs}
use Rattle.ordering.specs.declared.members.Members.{Members}

-- the members that an iterator has yet to give
abbrev pub members_left : Members → List ℕ
members_left m = numbers (member m.set.now) m.from (m.nodes - m.from)

-- what an iterator holds while it may be asked
pub record Going (m : Members) : Type 0 where
  pub words : (w : ℕ) → get_or m.set.now w 0 < 2 ^ 64
  pub room : m.nodes ≤ length m.set.now
  pub within : m.from ≤ m.nodes
  pub levels : Levels m.set.now m.nodes
  pub rest_is : RestIs m.set.now m.from m.rest

-- `next` took an iterator from old to new and gave the first of its members
pub record GivesMember (old : Members) (item : Option ℕ) (new : Members) : Type 0 where
  pub first : YieldsFirst members_left old item new
  pub same_nodes : new.nodes ≡ old.nodes
  pub below : IfSome item (λ x. x < old.nodes)
