-- What a map says of the bytes of its keys.
use Rattle.std.proofs.Common.{◌≡◌, ℕ, Bool, true, false, cond, List, [], ◌∷◌, ◌++◌, Option, Some, is_some, refl, ap, ◌∙◌}
use Rattle.std.specs.Prelude.{◌||◌, map}
use Rattle.std.specs.Str.{bytes_eq}
use Rattle.std.specs.Global.{Vec}
use Rattle.std.specs.Map as entries
use Rattle.std.proofs.lemmas.Bool.{or_parts}
use Rattle.indexmap.specs.IndexMap.{insert_entry}
use Rattle.elf_link.specs.declared.target.Target.{Target}
use Rattle.elf_link.specs.Symbols.{lookup}
use Rattle.elf_link.specs.Held.{named}
use Rattle.elf_link.specs.Refusals.{holds}

pub found_is : (name : List ℕ) (es : List (Vec ℕ × Target)) → entries.lookup (λ k. bytes_eq name k.items) es ≡ lookup name (named es)
unfolding lookup
found_is name [] = refl
found_is name (e ∷ es) = ap (λ (r : Option Target). cond (bytes_eq name e.0.items) (Some e.1) r) (found_is name es)

some_cond : (b : Bool) (t : Target) (r : Option Target) → is_some (cond b (Some t) r) ≡ (b || is_some r)
some_cond true t r = refl
some_cond false t r = refl

pub holds_is : (name : List ℕ) (es : List (Vec ℕ × Target)) → is_some (entries.lookup (λ k. bytes_eq name k.items) es) ≡ holds
    (map (λ d. d.0) (named es)) name
holds_is name [] = refl
holds_is name (e ∷ es) = some_cond (bytes_eq name e.0.items) e.1 (entries.lookup (λ k. bytes_eq name k.items) es)
    ∙ ap (λ (b : Bool). bytes_eq name e.0.items || b) (holds_is name es)

pub named-insert : (es : List (Vec ℕ × Target)) (k : Vec ℕ) (t : Target) → holds (map (λ d. d.0) (named es)) k.items ≡ false
    → named (insert_entry (λ a b. bytes_eq a.items b.items) es k t) ≡ named es ++ (k.items, t) ∷ []
named-insert [] k t h = refl
named-insert (e ∷ es) k t h =
    let parts = or_parts (bytes_eq k.items e.0.items) (holds (map (λ d. d.0) (named es)) k.items) h in
    rw parts.0 (ap (λ (ds : List (List ℕ × Target)). (e.0.items, e.1) ∷ ds) (named-insert es k t parts.1))
