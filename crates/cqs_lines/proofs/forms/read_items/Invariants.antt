use Rattle.std.proofs.Common.{◌≡◌, ◌≤◌, ◌+◌, length}
use Rattle.cqs_lines.proofs.Reading.{IsThrough}
use Rattle.cqs_lines.proofs.forms.read_items.Given as goal

abbrev pub invariant-lines : goal.invariant-lines
invariant-lines g l =
    IsThrough g.F.Form.says (g.F.Form.fits l.form) l.text l.items.items l.rest
    × (l.place ≡ l.first + length l.items.items)
    × (length l.items.items + length l.rest ≤ length l.text)

abbrev pub decreases-lines : goal.decreases-lines
decreases-lines g l = length l.rest
