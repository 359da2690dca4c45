use Rattle.std.proofs.Common.{◌≡◌, true, false, get_or, sym, ap, ◌∙◌, arith, List, Bool}
use Rattle.std.specs.FinMap.{get}
use Rattle.shadow_cache.proofs.Calls.{read-there}
use Rattle.trace_check.proofs.Holding.{get_cleared, get_same, whole_dir}
use Rattle.trace_check.proofs.whole_set.WholeSet.forget_dir.Goals as goal

pub clear_dir-requires-clause-index : goal.clear_dir-requires-clause-index
clear_dir-requires-clause-index c =
    let marked : get_or c.self.inside.marks.items c.args.index false ≡ true =
    ap (λ (l : List Bool). get_or l c.args.index false) (sym c.deref.ensures.value) ∙ sym c.is_marked.ensures ∙ c.if-is_marked.true in
    let lt = read-there c.self.inside.marks.items c.args.index marked in
    omega (arith, lt, c.self.invariant.indices)

pub invariant_of-self : goal.invariant_of-self
invariant_of-self c = whole_dir c.self.inside.words.items c.clear_dir.new.words.items c.self.inside.marks.items c.args.index
    c.self.invariant c.clear_dir.ensures.all c.clear_dir.ensures.clear c.clear_dir.ensures.others

pub returns-then-is_marked-clause-gone : goal.returns-then-is_marked-clause-gone
returns-then-is_marked-clause-gone c = λ page h. get_cleared c.clear_dir.new.words.items page (c.clear_dir.ensures.clear page h)

pub returns-then-is_marked-clause-others : goal.returns-then-is_marked-clause-others
returns-then-is_marked-clause-others c = λ other h. get_same c.self.inside.words.items c.clear_dir.new.words.items other
    (c.clear_dir.ensures.others other h) ∙ ap (λ m. get m other) c.self.view_is

pub returns-else-is_marked-clause-gone : goal.returns-else-is_marked-clause-gone
returns-else-is_marked-clause-gone c = λ page h.
    let unmarked : get_or c.self.inside.marks.items c.args.index false ≡ false =
    ap (λ (l : List Bool). get_or l c.args.index false) (sym c.deref.ensures.value) ∙ sym c.is_marked.ensures ∙ c.if-is_marked.false in
    ap (λ m. get m page) (sym c.self.view_is)
    ∙ get_cleared c.self.inside.words.items page
    (c.self.invariant.clear page (ap (λ i. get_or c.self.inside.marks.items i false) h ∙ unmarked))
