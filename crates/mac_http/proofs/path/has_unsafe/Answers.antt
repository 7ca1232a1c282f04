use Rattle.std.proofs.Common.{◌∙◌, ap, sym}
use Rattle.mac_http.specs.Path.{begins_unsafe}
use Rattle.mac_http.proofs.PathLemmas.{tail_is, unsafe_here, unsafe_later, unsafe_none}
use Rattle.mac_http.proofs.path.has_unsafe.Goals as goal

pub returns-then-begins_unsafe : goal.returns-then-begins_unsafe
returns-then-begins_unsafe c =
    sym (unsafe_here c.args.strict c.args.path.now c.loop-start.start c.loop-start-test.true (ap (begins_unsafe c.args.strict) (sym (tail_is c.args.path.now c.loop-start.start)) ∙ sym c.begins_unsafe.ensures ∙ c.if-begins_unsafe.true)) ∙ c.loop-start.invariant

pub loop-start-preserved : goal.loop-start-preserved
loop-start-preserved c =
    unsafe_later c.args.strict c.args.path.now c.loop-start.start c.loop-start-test.true (ap (begins_unsafe c.args.strict) (sym (tail_is c.args.path.now c.loop-start.start)) ∙ sym c.begins_unsafe.ensures ∙ c.if-begins_unsafe.false) ∙ c.loop-start.invariant

pub returns : goal.returns
returns c = sym (unsafe_none c.args.strict c.args.path.now c.loop-start.start c.loop-start-test.false) ∙ c.loop-start.invariant
