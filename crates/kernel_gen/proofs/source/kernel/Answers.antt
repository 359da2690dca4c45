use Rattle.std.proofs.Common.{◌≡◌, ◌∙◌, ◌++◌, sym, arith, refl, ap}
use Rattle.kernel_gen.specs.Kernels.{next, x_of, lines_of, body, text_of, head}
use Rattle.kernel_gen.proofs.Texts.{x_more, text_none, text_more, text_ends}
use Rattle.kernel_gen.proofs.source.kernel.Goals as goal

pub loop-init : goal.loop-init
unfolding x_of text_of
loop-init c = record {
  x = refl;
  text = c.in_ok-text.ensures.items ∙ sym (text_none c.args.number);
}

pub loop-preserved : goal.loop-preserved
loop-preserved c =
    let e : c.next-x.result ≡ next (x_of c.args.number c.loop.counter) = c.next-x.ensures ∙ ap next c.loop.invariant.x in
    record {
      x = e ∙ sym (x_more c.args.number c.loop.counter);
      text = text_more c.args.number c.loop.counter c.loop.text.items c.add_lines.new.text.items c.loop.invariant.text
          (c.in_ok-add_lines.ensures ∙ ap (λ x. c.loop.text.items ++ text_of (lines_of x)) e);
    }

pub returns : goal.returns
returns c =
    let n : c.loop.counter ≡ 1000 = omega arith in
    let all : c.loop.text.items ≡ text_of (head ++ body c.args.number 1000) =
    c.loop.invariant.text ∙ ap (λ k. text_of (head ++ body c.args.number k)) n in
    text_ends c.args.number c.loop.text.items c.extend_from_slice.new.self.items all c.in_ok-extend_from_slice.ensures.items
