use Rattle.std.proofs.Common.{[], ◌∷◌, ◌++◌, sym, subst}
use Rattle.shadow_tables.specs.declared.calls.Call.{Call}
use Rattle.shadow_cache.specs.Roots.{pairs_of}
use Rattle.shadow_cache.specs.Agreeing.{Agree}
use Rattle.shadow_cache.specs.declared.call_lists.RootsCall.TheVariants.{Shared}
use Rattle.shadow_cache.proofs.call_lists.apply_shared.Goals as goal

pub returns-else-free-eq0-clause-law : goal.returns-else-free-eq0-clause-law
returns-else-free-eq0-clause-law c = λ done value calls a.
    subst (λ (x : Call). Agree value (calls ++ Shared x ∷ []) (pairs_of c.fill.new.self) c.fill.new.ram) (sym c.in-Fill.is)
    (c.fill.ensures.told value calls a)

pub returns-in-DropPage-clause-law : goal.returns-in-DropPage-clause-law
returns-in-DropPage-clause-law c = λ done value calls a.
    subst (λ (x : Call). Agree value (calls ++ Shared x ∷ []) (pairs_of c.drop_page.new.self) c.drop_page.new.ram) (sym c.in-DropPage.is)
    (c.drop_page.ensures.told value calls a)

pub returns-in-DropDir-clause-law : goal.returns-in-DropDir-clause-law
returns-in-DropDir-clause-law c = λ done value calls a.
    subst (λ (x : Call). Agree value (calls ++ Shared x ∷ []) (pairs_of c.drop_dir.new.self) c.drop_dir.new.ram) (sym c.in-DropDir.is)
    (c.drop_dir.ensures.told value calls a)

pub returns-in-DropAll-clause-law : goal.returns-in-DropAll-clause-law
returns-in-DropAll-clause-law c = λ done value calls a.
    subst (λ (x : Call). Agree value (calls ++ Shared x ∷ []) (pairs_of c.drop_all.new.self) c.drop_all.new.ram) (sym c.in-DropAll.is)
    (c.drop_all.ensures.told value calls a)

pub returns-in-Note-clause-law : goal.returns-in-Note-clause-law
returns-in-Note-clause-law c = λ done value calls a.
    subst (λ (x : Call). Agree value (calls ++ Shared x ∷ []) (pairs_of c.note.new.self) c.note.new.ram) (sym c.in-Note.is)
    (c.note.ensures.told value calls a)

pub returns-in-Written-clause-law : goal.returns-in-Written-clause-law
returns-in-Written-clause-law c = λ done value calls a.
    subst (λ (x : Call). Agree value (calls ++ Shared x ∷ []) (pairs_of c.written.new.self) c.written.new.ram) (sym c.in-Written.is)
    (c.written.ensures.told value calls a)
