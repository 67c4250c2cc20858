use Rattle.std.proofs.Common.{◌≡◌, ◌-◌, ◌/◌, ◌^◌, length, drop}
use Rattle.text.specs.Hex.{hex_digits}
use Rattle.report.proofs.page.Page.put_hex.Given as goal

abbrev pub invariant-loop-place : goal.invariant-loop-place
invariant-loop-place g l = record {
  size : length l.digits ≡ g.row.COUNT;
  digits : drop l.place l.digits ≡ hex_digits (g.row.COUNT - l.place) l.x;
  rest : l.rest ≡ l.x / 16 ^ (g.row.COUNT - l.place);
}
