-- Where names are found, and where a relocation is refused.
use Rattle.std.proofs.Common.{◌≡◌, ℕ, zero, suc, ◌+◌, Bool, true, false, cond, List, [], ◌∷◌, ◌++◌, Option, Some, None, refl, ap, sym, ◌∙◌, subst, slice_get, arith}
use Rattle.std.specs.Prelude.{map, filter, not, ◌&&◌}
use Rattle.std.specs.List.{flat_map, enumerate_from}
use Rattle.std.specs.Option.{option_or}
use Rattle.std.specs.Str.{bytes_eq}
use Rattle.elf_form.specs.declared.object.Symbol.{Symbol}
use Rattle.elf_form.specs.declared.object.Reloc.{Reloc}
use Rattle.elf_form.specs.ObjectParts.{ObjectParts}
use Rattle.elf_link.specs.declared.target.Target.{Target}
use Rattle.elf_link.specs.declared.fault.LinkCause.TheVariants.{NoSymbol, NotText}
use Rattle.elf_link.specs.Symbols.{is_exported, is_text, target, exports, definitions, lookup, target_of, globals}
use Rattle.elf_link.specs.Relocations.{reloc_cause, symbol_cause, target_cause}
use Rattle.elf_form.proofs.FormLaws.{else_none}
use Rattle.elf_link.proofs.ExportLaws.{entries}

lookup-append : (name : List ℕ) (xs ys : List (List ℕ × Target)) → lookup name (xs ++ ys) ≡ option_or (lookup name xs) (lookup name ys)
unfolding lookup
lookup-append name [] ys = refl
lookup-append name (x ∷ xs) ys = by (bytes_eq name x.0) (lookup-append name xs ys) where
  by : (b : Bool) → lookup name (xs ++ ys) ≡ option_or (lookup name xs) (lookup name ys)
      → cond b (Some x.1) (lookup name (xs ++ ys)) ≡ option_or (cond b (Some x.1) (lookup name xs)) (lookup name ys)
  by true ih = refl
  by false ih = ih

-- a name that isn't found in the entries of an object is no exported name of it
own-nowhere : (name : List ℕ) (n : ℕ) (symbols : List Symbol) (k : ℕ) (s : Symbol) → lookup name (entries n symbols) ≡ None
    → slice_get symbols k ≡ Some s → is_exported s ≡ true → bytes_eq name s.name ≡ false
unfolding lookup
own-nowhere name n [] k s none at e = absurd (cc)
own-nowhere name n (x ∷ xs) zero s none at e = here (bytes_eq name s.name) refl
    (subst (λ (b : Bool). lookup name (map (λ y. (y.name, target n y)) (cond b (x ∷ filter is_exported xs) (filter is_exported xs))) ≡ None)
    (ap is_exported same ∙ e) none) where
      same : x ≡ s
      same = cc

      here : (b : Bool) → bytes_eq name s.name ≡ b → lookup name ((x.name, target n x) ∷ entries n xs) ≡ None → bytes_eq name s.name ≡ false
      here false p h = p
      here true p h =
          let e : Some (target n x) ≡ None =
          sym (ap (λ (b : Bool). cond b (Some (target n x)) (lookup name (entries n xs)))
          (ap (λ (y : Symbol). bytes_eq name y.name) same ∙ p)) ∙ h in
          absurd (cc)
own-nowhere name n (x ∷ xs) (suc k) s none at e = own-nowhere name n xs k s (rest (is_exported x) none) at e where
  deeper : (b : Bool) → cond b (Some (target n x)) (lookup name (entries n xs)) ≡ None → lookup name (entries n xs) ≡ None
  deeper false h = h
  deeper true h = absurd (cc)

  rest : (b : Bool) → lookup name (map (λ y. (y.name, target n y)) (cond b (x ∷ filter is_exported xs) (filter is_exported xs))) ≡ None
      → lookup name (entries n xs) ≡ None
  rest false h = h
  rest true h = deeper (bytes_eq name x.name) h

-- and a name that is found is one
own-found : (name : List ℕ) (n : ℕ) (symbols : List Symbol) (t : Target) → lookup name (entries n symbols) ≡ Some t → (k : ℕ) × (s : Symbol)
    × (slice_get symbols k ≡ Some s) × (is_exported s ≡ true) × (bytes_eq name s.name ≡ true) × (t ≡ target n s)
unfolding lookup
own-found name n [] t h = absurd (cc)
own-found name n (x ∷ xs) t h = by (own-found name n xs t) (is_exported x) refl h where
  at : (lookup name (entries n xs) ≡ Some t → (k : ℕ) × (s : Symbol) × (slice_get xs k ≡ Some s) × (is_exported s ≡ true)
      × (bytes_eq name s.name ≡ true) × (t ≡ target n s)) → (b : Bool) → bytes_eq name x.name ≡ b → is_exported x ≡ true
      → cond b (Some (target n x)) (lookup name (entries n xs)) ≡ Some t → (k : ℕ) × (s : Symbol) × (slice_get (x ∷ xs) k ≡ Some s)
      × (is_exported s ≡ true) × (bytes_eq name s.name ≡ true) × (t ≡ target n s)
  at ih true p e h = (0, x, refl, e, p, cc)
  at ih false p e h = let r = ih h in (suc r.0, r.1, r.2, r.3, r.4, r.5)

  by : (lookup name (entries n xs) ≡ Some t → (k : ℕ) × (s : Symbol) × (slice_get xs k ≡ Some s) × (is_exported s ≡ true)
      × (bytes_eq name s.name ≡ true) × (t ≡ target n s)) → (b : Bool) → is_exported x ≡ b
      → lookup name (map (λ y. (y.name, target n y)) (cond b (x ∷ filter is_exported xs) (filter is_exported xs))) ≡ Some t → (k : ℕ)
      × (s : Symbol) × (slice_get (x ∷ xs) k ≡ Some s) × (is_exported s ≡ true) × (bytes_eq name s.name ≡ true) × (t ≡ target n s)
  by ih false e h = let r = ih h in (suc r.0, r.1, r.2, r.3, r.4, r.5)
  by ih true e h = at ih (bytes_eq name x.name) refl e h

nowhere_in : (name : List ℕ) (n : ℕ) (os : List ObjectParts) (j k : ℕ) (o : ObjectParts) (s : Symbol)
    → lookup name (definitions (enumerate_from n os)) ≡ None → slice_get os j ≡ Some o → slice_get o.symbols k ≡ Some s
    → is_exported s ≡ true → bytes_eq name s.name ≡ false
unfolding definitions
nowhere_in name n [] j k o s none there listed e = absurd (cc)
nowhere_in name n (x ∷ xs) zero k o s none there listed e =
    let same : x ≡ o = cc in
    let parts = sym (lookup-append name (exports (n, x)) (flat_map exports (enumerate_from (n + 1) xs))) ∙ none in
    own-nowhere name n x.symbols k s (else_none (lookup name (exports (n, x))) (lookup name (flat_map exports (enumerate_from (n + 1) xs)))
    parts).0 (ap (λ (p : ObjectParts). slice_get p.symbols k) same ∙ listed) e
nowhere_in name n (x ∷ xs) (suc j) k o s none there listed e =
    let parts = sym (lookup-append name (exports (n, x)) (flat_map exports (enumerate_from (n + 1) xs))) ∙ none in
    nowhere_in name (n + 1) xs j k o s
    (else_none (lookup name (exports (n, x))) (lookup name (flat_map exports (enumerate_from (n + 1) xs))) parts).1 there listed e

found_in : (name : List ℕ) (n : ℕ) (os : List ObjectParts) (t : Target) → lookup name (definitions (enumerate_from n os)) ≡ Some t → (j : ℕ)
    × (k : ℕ) × (o : ObjectParts) × (s : Symbol) × (slice_get os j ≡ Some o) × (slice_get o.symbols k ≡ Some s) × (is_exported s ≡ true)
    × (bytes_eq name s.name ≡ true) × (t ≡ target (n + j) s)
unfolding definitions lookup
found_in name n [] t h = absurd (cc)
found_in name n (x ∷ xs) t h = by (found_in name (n + 1) xs t) (lookup name (exports (n, x))) refl
    (sym (lookup-append name (exports (n, x)) (flat_map exports (enumerate_from (n + 1) xs))) ∙ h) where
      by : (lookup name (flat_map exports (enumerate_from (n + 1) xs)) ≡ Some t → (j : ℕ) × (k : ℕ) × (o : ObjectParts) × (s : Symbol)
          × (slice_get xs j ≡ Some o) × (slice_get o.symbols k ≡ Some s) × (is_exported s ≡ true) × (bytes_eq name s.name ≡ true)
          × (t ≡ target (n + 1 + j) s)) → (r : Option Target) → lookup name (exports (n, x)) ≡ r
          → option_or r (lookup name (flat_map exports (enumerate_from (n + 1) xs))) ≡ Some t → (j : ℕ) × (k : ℕ) × (o : ObjectParts)
          × (s : Symbol) × (slice_get (x ∷ xs) j ≡ Some o) × (slice_get o.symbols k ≡ Some s) × (is_exported s ≡ true)
          × (bytes_eq name s.name ≡ true) × (t ≡ target (n + j) s)
      by ih (Some u) e h =
          let own = own-found name n x.symbols t (e ∙ h) in
          let zeroth : n ≡ n + 0 = omega arith in
          (0, own.0, x, own.1, refl, own.2, own.3, own.4, own.5 ∙ ap (λ (m : ℕ). target m own.1) zeroth)
      by ih None e h =
          let r = ih h in
          let next : n + 1 + r.0 ≡ n + suc r.0 = omega arith in
          (suc r.0, r.1, r.2, r.3, r.4, r.5, r.6, r.7, r.8 ∙ ap (λ (m : ℕ). target m r.3) next)

pub nowhere : (os : List ObjectParts) (name : List ℕ) → lookup name (globals os) ≡ None → (j k : ℕ) (o : ObjectParts) (s : Symbol)
    → slice_get os j ≡ Some o → slice_get o.symbols k ≡ Some s → is_exported s ≡ true → bytes_eq name s.name ≡ false
nowhere os name none j k o s there listed e = nowhere_in name 0 os j k o s none there listed e

pub found : (os : List ObjectParts) (name : List ℕ) (t : Target) → lookup name (globals os) ≡ Some t → (k : ℕ) × (o : ObjectParts)
    × (s : Symbol) × (slice_get os t.object ≡ Some o) × (slice_get o.symbols k ≡ Some s) × (is_exported s ≡ true)
    × (bytes_eq name s.name ≡ true) × (t ≡ target t.object s)
found os name t h =
    let r = found_in name 0 os t h in
    let at : t.object ≡ r.0 = ap (λ (u : Target). u.object) r.8 ∙ omega arith in
    (r.1, r.2, r.3, ap (slice_get os) at ∙ r.4, r.5, r.6, r.7, r.8 ∙ ap (λ (m : ℕ). target m r.3) (omega arith))

-- a relocation is refused for its symbol exactly where that stands for nothing
pub no_symbol : (gs : List (List ℕ × Target)) (i : ℕ) (o : ObjectParts) (r : Reloc) (s : Symbol) → slice_get o.symbols r.symbol ≡ Some s
    → target_of gs i s ≡ None → reloc_cause gs (i, o) r ≡ Some (NoSymbol s.name)
unfolding reloc_cause
no_symbol gs i o r s at none = ap (symbol_cause gs i r) at ∙ ap (target_cause r s) none

-- and for a branch exactly where its symbol isn't in text
pub not_text : (gs : List (List ℕ × Target)) (i : ℕ) (o : ObjectParts) (r : Reloc) (s : Symbol) (t : Target)
    → slice_get o.symbols r.symbol ≡ Some s → target_of gs i s ≡ Some t
    → reloc_cause gs (i, o) r ≡ cond (r.in_text && r.relative && not (is_text t.place)) (Some (NotText r.at)) None
unfolding reloc_cause
not_text gs i o r s t at some = ap (symbol_cause gs i r) at ∙ ap (target_cause r s) some
