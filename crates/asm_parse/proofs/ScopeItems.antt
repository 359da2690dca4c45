-- What leaves the items of a scope as they are: a name that is seen, and a head that ends.
use Rattle.std.proofs.Common.{◌≡◌, ℕ, Bool, List, Option, Some, None, refl, sym, ap}
use Rattle.asm_statement.specs.declared.directive.Directive.TheVariants as kind
use Rattle.asm_statement.specs.declared.directive.Head.{Head}
use Rattle.asm_statement.specs.declared.directive.Head.TheVariants as head
use Rattle.asm_statement.specs.ScopeView.{ScopeView}
use Rattle.asm_statement.specs.Items.{resumed}
use Rattle.asm_parse.specs.Statements.{IsSeen, Sees}

pub seen_items : {sc sc2 : ScopeView} {d : Bool} {n : List ℕ} → IsSeen sc d n sc2 → sc2.items ≡ sc.items
seen_items (IsSeen.used room) = refl
seen_items (IsSeen.defined new room) = refl

pub sees_items : (sc sc2 : ScopeView) (d : Bool) (n : Option (List ℕ)) → Sees sc d n sc2 → sc2.items ≡ sc.items
sees_items sc sc2 d None h = ap (λ (x : ScopeView). x.items) (sym h)
sees_items sc sc2 d (Some n) seen = seen_items seen

pub resumed_items : (sc : ScopeView) (h : Head) → (resumed sc h).items ≡ sc.items
resumed_items sc (head.Directive kind.Plain n) = refl
resumed_items sc _ = refl
