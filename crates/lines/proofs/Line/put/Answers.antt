-- What was copied to the front is the line.
-- Assumes nothing.
use Rattle.std.proofs.Common.{◌≡◌, ◌∙◌, ap, length, rules}
use Rattle.lines.specs.Line.{bytes_of}
use Rattle.lines.proofs.Lines.{line_put}
use Rattle.lines.proofs.Line.put.Goals as goal

pub returns : goal.returns
returns c =
    let copied : c.copy_from_slice.new.self ≡ bytes_of c.args.self = search rules in
    line_put _ _ _ _ (search rules) c.len-length.ensures.fits copied (c.len-length.ensures.value ∙ ap length c.text-text.ensures)
