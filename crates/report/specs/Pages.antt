-- Text on a page. Assumes nothing.
use Rattle.std.specs.Prelude.{◌≡◌, ℕ, ◌+◌, ◌≤◌, List, length}
use Rattle.std.proofs.Math.Seq.{paste}
use Rattle.report.specs.declared.page.Page.{Page}

-- the page with a text from a place on, and all else as it was
abbrev pub written : List ℕ → ℕ → List ℕ → List ℕ
written page at text = paste page at text (length text)

-- there is room for a text from a place on
abbrev pub Room : List ℕ → ℕ → List ℕ → Type 0
Room page at text = at + length text ≤ length page

-- A text was written from a place on, and ends before another.
pub record Wrote (before : List ℕ) (at : ℕ) (text : List ℕ) (after : List ℕ) (end : ℕ) : Type 0 where
  pub page : after ≡ written before at text
  pub place : end ≡ at + length text
  pub within : Room before at text

-- there is room for so many bytes behind what a page holds
abbrev pub HasRoom : Page → ℕ → Type 0
HasRoom page n = page.length + n ≤ length page.bytes.now

-- A text was put behind what a page holds, on the same bytes, and no byte is added to them.
pub record Put (before : Page) (text : List ℕ) (after : Page) : Type 0 where
  pub same : after.bytes.ghost_name ≡ before.bytes.ghost_name
  pub size : length after.bytes.now ≡ length before.bytes.now
  pub wrote : Wrote before.bytes.now before.length text after.bytes.now after.length
