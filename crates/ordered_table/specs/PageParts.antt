-- What always holds of a page.
use Rattle.std.specs.Prelude.{◌≡◌, ◌≤◌, vec_len, vec_capacity}
use Rattle.ordered_table.specs.Leading.{page_leading}
use Rattle.ordered_table.specs.declared.pages.Page.TheInside.{Inside}

-- it has at most 64 rows, reserved capacity for 64, and the number that its first row begins with
pub record HasPlaces (page : Inside) : Type 0 where
  pub most : vec_len page.rows ≤ 64
  pub room : 64 ≤ vec_capacity page.rows
  pub leading : page.leading ≡ page_leading page.rows.items
