-- What the functions that write a line need, and where a line stands.
-- Assumes nothing.
use Rattle.std.specs.Prelude.{ℕ, ◌+◌, ◌*◌, ◌≤◌, Option}
use Rattle.std.specs.Borrow.{GName}
use Rattle.listing.specs.declared.sizes.TheConstants.{LINE_BYTES, NUMBER_BYTES, ORDER_BYTES}

-- so many bytes are enough for any line over a text and an order of these lengths
pub record Room (text order bytes : ℕ) : Type 0 where
  pub of_node : text + LINE_BYTES ≤ bytes
  pub of_order : NUMBER_BYTES * order + ORDER_BYTES ≤ bytes

-- where a line stands: how many bytes fit there, and the name of the area that is lent for it, if one is
pub record Place : Type 0 where
  pub size : ℕ
  pub area : Option GName
