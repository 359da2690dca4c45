use Rattle.std.proofs.Common.{◌≡◌, ℕ, ◌+◌, ◌<◌, List, [], ◌∷◌, ◌++◌, map, length, get_or, take, append_assoc, sym, ap, ◌∙◌}
use Rattle.std.proofs.lemmas.List.{append-nil, take_more, take_all, map-append}
use Rattle.std.proofs.lemmas.Result.{IfOk-from_err}
use Rattle.sites.specs.declared.site.Site.{Site}
use Rattle.elf_link.specs.Sites.{moved}
use Rattle.elf_link.proofs.gathering.put_moved.Goals as goal

more : (out now : List Site) (by : ℕ) (sites : List Site) (i : ℕ) (d : Site) → i < length sites → now ≡ out ++ map (moved by) (take i sites)
    → now ++ moved by (get_or sites i d) ∷ [] ≡ out ++ map (moved by) (take (i + 1) sites)
more out now by sites i d lt e =
    ap (λ (ss : List Site). ss ++ moved by (get_or sites i d) ∷ []) e ∙ append_assoc out (map (moved by) (take i sites))
    (moved by (get_or sites i d) ∷ [])
    ∙ ap (λ (ss : List Site). out ++ ss)
    (sym (ap (map (moved by)) (take_more sites i d lt) ∙ map-append (moved by) (take i sites) (get_or sites i d ∷ [])))

pub loop-s-init : goal.loop-s-init
loop-s-init c = sym (append-nil c.args.out.now.items)

pub loop-s-preserved : goal.loop-s-preserved
loop-s-preserved c = c.in_ok-push.ensures.items ∙ more c.args.out.now.items _ c.args.by c.args.sites.now c.loop-s.s-index _
    c.loop-s-test.true c.loop-s.invariant

pub returns : goal.returns
returns c = c.loop-s.invariant ∙ ap (λ (ss : List Site). c.args.out.now.items ++ map (moved c.args.by) ss)
    (take_all c.loop-s.s-index c.args.sites.now c.loop-s-test.false)

pub returns-in_err-push : goal.returns-in_err-push
returns-in_err-push c = IfOk-from_err c.from_residual.result _ c.from_residual.ensures.0
