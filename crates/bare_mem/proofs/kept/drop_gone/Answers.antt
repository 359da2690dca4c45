use Rattle.std.proofs.Common.{◌≡◌, ℕ, Bool, cond, List, get_or, take, None, refl, sym, ap, subst, ◌∙◌}
use Rattle.std.proofs.lemmas.List.{take_more, take_all}
use Rattle.std.specs.FinMap.{get, remove}
use Rattle.step_mem.specs.declared.changes.Change.{Change}
use Rattle.step_mem.specs.declared.changes.Change.TheVariants.{Gone}
use Rattle.step_mem.specs.Changes.{last_change, page_of}
use Rattle.bare_mem.specs.declared.kept.Cached.{Cached}
use Rattle.bare_mem.specs.Keeping.{is_gone, unless}
use Rattle.bare_mem.proofs.Gone.{AreGone, gone_none, gone_more, gone_all}
use Rattle.bare_mem.proofs.kept.drop_gone.Goals as goal
use Rattle.bare_mem.proofs.kept.drop_gone.Goals.{then-is_gone, else-is_gone}

pub loop-change-init : goal.loop-change-init
loop-change-init g c =
    record {
      gone = gone_none (λ q. is_gone (last_change None c.as_slice-changes.result.now q)) (g.C.Cache.entries c.args.kept.now.cache);
      same = refl;
    }

pub loop-change-preserved : goal.loop-change-preserved
loop-change-preserved g c =
    let items = c.as_slice-changes.result.now in
    let i = c.loop-change.change-index in
    let change = get_or items i (Gone 0) in
    let go : ℕ → Bool = λ q. is_gone (last_change None items q) in
    let old = g.C.Cache.entries c.args.kept.now.cache in
    let mid = g.C.Cache.entries c.loop-change.kept.cache in
    let test : c.is_gone.result ≡ go (page_of change) =
    c.is_gone.ensures ∙ (ap is_gone c.last_change.ensures ∙ ap go c.page-page.ensures) in
    elim c.if-is_gone.branch [
      | then-is_gone w ↦ record {
        gone = subst (AreGone go old (g.C.Cache.entries c.if-is_gone.kept.cache)) (sym (take_more items i (Gone 0) c.loop-change-test.true))
            (gone_more go old mid (g.C.Cache.entries c.if-is_gone.kept.cache) (take i items) change
            (ap (λ (k : Cached g.row.C.Denot). g.C.Cache.entries k.cache) w.kept-is
            ∙ (w.drop_page.ensures.exact
            ∙ (ap (remove mid) c.page-page.ensures
            ∙ ap (λ (b : Bool). cond b (remove mid (page_of change)) mid) (sym (sym test ∙ w.if-is_gone.true)))))
            c.loop-change.invariant.gone);
        same = ap (λ (k : Cached g.row.C.Denot). g.C.Cache.is_exact k.cache) w.kept-is
            ∙ (w.drop_page.ensures.same ∙ c.loop-change.invariant.same);
      }
      | else-is_gone w ↦ record {
        gone = subst (AreGone go old (g.C.Cache.entries c.if-is_gone.kept.cache)) (sym (take_more items i (Gone 0) c.loop-change-test.true))
            (gone_more go old mid (g.C.Cache.entries c.if-is_gone.kept.cache) (take i items) change
            (ap (λ (k : Cached g.row.C.Denot). g.C.Cache.entries k.cache) w.kept-is
            ∙ ap (λ (b : Bool). cond b (remove mid (page_of change)) mid) (sym (sym test ∙ w.if-is_gone.false)))
            c.loop-change.invariant.gone);
        same = ap (λ (k : Cached g.row.C.Denot). g.C.Cache.is_exact k.cache) w.kept-is ∙ c.loop-change.invariant.same;
      }
    ]

pub returns-clause-gone : goal.returns-clause-gone
returns-clause-gone g c = λ page.
    let items = c.as_slice-changes.result.now in
    let old = g.C.Cache.entries c.args.kept.now.cache in
    let new = g.C.Cache.entries c.loop-change.kept.cache in
    let all = subst (AreGone (λ q. is_gone (last_change None items q)) old new)
    (take_all c.loop-change.change-index items c.loop-change-test.false) c.loop-change.invariant.gone in
    gone_all old new items all page
    ∙ ap (λ (cs : List Change). unless (is_gone (last_change None cs page)) (get old page)) c.as_slice-changes.ensures.changes
