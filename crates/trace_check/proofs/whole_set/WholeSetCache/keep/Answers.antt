use Rattle.std.proofs.Common.{◌<◌, length, Some, ap, ◌∙◌, inl, arith}
use Rattle.std.specs.FinMap.{get, insert}
use Rattle.bare_mem.proofs.Parts.{all_turned}
use Rattle.trace_check.specs.Slots.{entries_of}
use Rattle.trace_check.proofs.Holding.{get_put, get_put_other, whole_put}
use Rattle.trace_check.proofs.whole_set.WholeSetCache.keep.Goals as goal

pub invariant_of-self : goal.invariant_of-self
invariant_of-self c = whole_put c.self.inside.words.items c.self.inside.marks.items c.args.entry.page c.word_of.result c.self.invariant
    c.requires.page c.word_of.ensures.small

pub returns-clause-kept : goal.returns-clause-kept
returns-clause-kept c =
    let lt : c.args.entry.page < length c.self.inside.words.items = omega (arith, c.self.invariant.pages, c.requires.page) in
    rw c.word_of.ensures.word (get_put c.self.inside.words.items c.args.entry lt)

pub returns-clause-others : goal.returns-clause-others
returns-clause-others c =
    λ page n. inl (get_put_other c.self.inside.words.items c.args.entry.page c.word_of.result page n ∙ ap (λ m. get m page) c.self.view_is)

pub returns-clause-exact : goal.returns-clause-exact
returns-clause-exact c =
    λ _ page n. get_put_other c.self.inside.words.items c.args.entry.page c.word_of.result page n ∙ ap (λ m. get m page) c.self.view_is

pub returns-clause-whole : goal.returns-clause-whole
returns-clause-whole c =
    let words = c.self.inside.words.items in
    let entry = c.args.entry in
    let lt : entry.page < length words = omega (arith, c.self.invariant.pages, c.requires.page) in
    all_turned (entries_of words) _ entry.page (Some entry)
    (rw c.word_of.ensures.word (get_put words entry lt))
    (λ page n. get_put_other words entry.page c.word_of.result page n)
    ∙ ap (λ m. insert m entry.page entry) c.self.view_is
