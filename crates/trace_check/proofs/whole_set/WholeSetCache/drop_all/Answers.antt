use Rattle.std.proofs.Common.{◌/◌, sym, ap, ◌∙◌, inl, inr, arith}
use Rattle.std.specs.FinMap.{get}
use Rattle.std.proofs.lemmas.Bool.{cases_lt}
use Rattle.std.proofs.lemmas.Bool.Decides.{eqb_tells}
use Rattle.trace_check.proofs.Holding.{get_behind}
use Rattle.trace_check.proofs.whole_set.WholeSetCache.drop_all.Goals as goal

pub loop-index-init : goal.loop-index-init
loop-index-init c = record {
  gone = λ page h. absurd (omega arith);
  behind = λ page le. ap (λ m. get m page) (sym c.self.view_is) ∙ get_behind c.self.inside.words.items c.self.inside.marks.items page
      c.self.invariant le;
}

pub loop-index-preserved : goal.loop-index-preserved
loop-index-preserved c = record {
  gone = λ page h. elim (eqb_tells (page / 1024) c.loop-index.index) [
    | inl t ↦ c.forget_dir.ensures.gone page t.1
    | inr f ↦ c.forget_dir.ensures.others page f.1 ∙ c.loop-index.invariant.gone page (omega (arith, f.1, h))
  ];
  behind = λ page le. elim (eqb_tells (page / 1024) c.loop-index.index) [
    | inl t ↦ c.forget_dir.ensures.gone page t.1
    | inr f ↦ c.forget_dir.ensures.others page f.1 ∙ c.loop-index.invariant.behind page le
  ];
}

pub returns-clause-gone : goal.returns-clause-gone
returns-clause-gone c = λ page. elim (cases_lt page 1048576) [
  | inl lt ↦ c.loop-index.invariant.gone page (omega arith)
  | inr le ↦ c.loop-index.invariant.behind page le
]
