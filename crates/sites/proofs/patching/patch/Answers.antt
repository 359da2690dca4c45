use Rattle.std.proofs.Common.{◌≡◌, ◌≤◌, length, sym, ap, ◌∙◌}
use Rattle.sites.proofs.PatchSteps.{one_site, inside_after, no_more}
use Rattle.sites.proofs.patching.patch.Goals as goal

pub loop-s-preserved : goal.loop-s-preserved
loop-s-preserved c =
    let same : c.deref-s-items.result.now ≡ c.args.sites.now.list = c.deref-s-items.ensures.value ∙ ap (λ s. s.list) c.sites.view_is in
    record {
      memory = rw c.patch_site.ensures.memory
          (sym (one_site c.loop-s.ram c.args.text_at c.deref-s-items.result.now c.args.sites.now.list c.loop-s.s-index _ same
          c.loop-s-test.true) ∙ c.loop-s.invariant.memory);
      len = c.patch_site.ensures.len ∙ c.loop-s.invariant.len;
      inside = inside_after (length c.args.ram.now) c.args.text_at c.deref-s-items.result.now c.args.sites.now.list c.loop-s.s-index same
          c.loop-s-test.true c.loop-s.invariant.inside;
    }

pub returns-clause-memory : goal.returns-clause-memory
returns-clause-memory c =
    let same : c.deref-s-items.result.now ≡ c.args.sites.now.list = c.deref-s-items.ensures.value ∙ ap (λ s. s.list) c.sites.view_is in
    let all : length c.args.sites.now.list ≤ c.loop-s.s-index = rw (← same) c.loop-s-test.false in
    sym (no_more c.loop-s.ram c.args.text_at c.args.sites.now.list c.loop-s.s-index all) ∙ c.loop-s.invariant.memory
