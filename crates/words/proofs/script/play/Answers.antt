use Rattle.std.proofs.Common.{◌+◌, string_bytes, arith, rules}
use Rattle.words.specs.Script.{lines_of}
use Rattle.words.proofs.Playing.{onward_trouble, onward_end}
use Rattle.words.proofs.script.play.Goals as goal

pub loop-line-preserved : goal.loop-line-preserved
loop-line-preserved g c = (
  omega (arith, c.in-Some.ensures.1),
  onward_trouble g.P.Takes.steps (lines_of c.args.script.now) c.args.page.now (string_bytes c.args.messages.now) (c.loop-line.number + 1) (lines_of c.loop-line.rest.now) _ _
      c.loop-line.page c.take_line.new.page (string_bytes c.loop-line.messages) (string_bytes c.push_str.new.self) c.loop-line.all c.in-Err.why
      c.loop-line.invariant.1 c.in-Some.ensures.0 c.in-Err.ensures (search rules) (search rules),
)

pub returns : goal.returns
returns g c =
    onward_end g.P.Takes.steps (lines_of c.args.script.now) c.args.page.now (string_bytes c.args.messages.now) (c.loop-line.number + 1) (lines_of c.loop-line.rest.now) c.loop-line.page (string_bytes c.loop-line.messages) c.loop-line.all
    c.loop-line.invariant.1 c.in_default.ensures
