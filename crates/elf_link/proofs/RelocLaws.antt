-- Fields and the parts that hold them.
use Rattle.std.proofs.Common.{◌≡◌, ℕ, suc, ◌+◌, ◌<◌, ◌≤◌, ◌^◌, Bool, true, false, cond, List, [], ◌∷◌, ◌++◌, length, get_or, take, drop, refl, ap, sym, ◌∙◌, subst, arith}
use Rattle.std.specs.Prelude.{All, fold, not, IsTrue}
use Rattle.std.proofs.lemmas.List.{take_at, get_or_default}
use Rattle.std.proofs.lemmas.List.Sums.{fold_more}
use Rattle.guest_ram.specs.Bytes.{with_word32, word32}
use Rattle.guest_ram.proofs.Bytes.{length-with_word32}
use Rattle.elf_form.specs.declared.object.Reloc.{Reloc}
use Rattle.elf_form.specs.ObjectParts.{ObjectParts}
use Rattle.elf_form.specs.ObjectLayout.{is_of}
use Rattle.elf_link.specs.declared.base.Base.{Base}
use Rattle.elf_link.specs.declared.target.Target.{Target}
use Rattle.elf_form.specs.Linkable.{IsLinkable}
use Rattle.elf_link.specs.Relocations.{contents_of, filled, with_fields, relocated}

-- the field of a relocation lies in the part that it is of
pub inside_part : (o : ObjectParts) (in_text : Bool) (r : Reloc) → r.at + 4 ≤ cond r.in_text (length o.text) (length o.init)
    → is_of in_text r ≡ true → r.at + 4 ≤ length (contents_of in_text o)
inside_part o in_text r fits of = by in_text r.in_text fits of where
  by : (a b : Bool) → r.at + 4 ≤ cond b (length o.text) (length o.init) → cond a b (not b) ≡ true → r.at + 4 ≤ length (cond a o.text o.init)
  by true true f e = f
  by true false f e = absurd (cc)
  by false true f e = absurd (cc)
  by false false f e = f

-- a filled field leaves the length
pub length-filled : (bs : List Base) (gs : List (List ℕ × Target)) (p : ℕ × ObjectParts) (in_text : Bool) (bytes : List ℕ) (r : Reloc)
    → r.at + 4 ≤ cond r.in_text (length p.1.text) (length p.1.init) → length bytes ≡ length (contents_of in_text p.1)
    → length (filled bs gs p in_text bytes r) ≡ length bytes
unfolding filled
length-filled bs gs p in_text bytes r fits len = by (is_of in_text r) refl where
  by : (b : Bool) → is_of in_text r ≡ b
      → length (cond b (with_word32 bytes r.at (relocated bs gs p r (word32 bytes r.at))) bytes) ≡ length bytes
  by true e = length-with_word32 bytes r.at _ (subst (λ (n : ℕ). r.at + 4 ≤ n) (sym len) (inside_part p.1 in_text r fits e))
  by false e = refl

length-fold : (bs : List Base) (gs : List (List ℕ × Target)) (p : ℕ × ObjectParts) (in_text : Bool) (bytes : List ℕ) (rs : List Reloc)
    → All (λ r. r.at + 4 ≤ cond r.in_text (length p.1.text) (length p.1.init)) rs → length bytes ≡ length (contents_of in_text p.1)
    → length (fold (filled bs gs p in_text) bytes rs) ≡ length (contents_of in_text p.1)
length-fold bs gs p in_text bytes [] all len = len
length-fold bs gs p in_text bytes (r ∷ rs) all len = length-fold bs gs p in_text (filled bs gs p in_text bytes r) rs
    (λ k d h. all (suc k) d (omega arith)) (length-filled bs gs p in_text bytes r (all 0 r (omega arith)) len ∙ len)

-- so a part keeps its length
pub length-with_fields : (bs : List Base) (gs : List (List ℕ × Target)) (p : ℕ × ObjectParts) (in_text : Bool) → IsLinkable p.1
    → length (with_fields bs gs p in_text) ≡ length (contents_of in_text p.1)
unfolding with_fields
length-with_fields bs gs p in_text linkable = length-fold bs gs p in_text (contents_of in_text p.1) p.1.relocs linkable.inside refl

-- one step of a fold over a list that has another name
pub fold-next : (f : List ℕ → Reloc → List ℕ) (a : List ℕ) (rs ys : List Reloc) (i : ℕ) (d : Reloc) (old new : List ℕ) → ys ≡ rs
    → i < length ys → old ≡ fold f a (take i rs) → new ≡ f old (get_or ys i d) → new ≡ fold f a (take (i + 1) rs)
fold-next f a rs ys i d old new e lt so_far step =
    let more = fold_more f a rs i d (subst (λ (zs : List Reloc). i < length zs) e lt) in
    step ∙ (ap (λ (bytes : List ℕ). f bytes (get_or ys i d)) so_far
    ∙ (ap (λ (zs : List Reloc). f (fold f a (take i rs)) (get_or zs i d)) e ∙ sym more))

-- bytes that took the place of as many
pub put_back : (new old : List ℕ) (n : ℕ) → length new ≡ n → take n (new ++ drop (length new) old) ≡ new
put_back new old n e = take_at new (drop (length new) old) n e

-- an item of the relocations, under another name of the list, has its field in the part
pub field_room : (o : ObjectParts) (in_text : Bool) (ys : List Reloc) (i : ℕ) (d : Reloc) (bytes : List ℕ) → IsLinkable o → ys ≡ o.relocs
    → i < length ys → length bytes ≡ length (contents_of in_text o) → IsTrue (is_of in_text (get_or ys i d))
    → (get_or ys i d).at + 4 ≤ length bytes
field_room o in_text ys i d bytes linkable e lt len of =
    let inside =
    subst (λ (zs : List Reloc). i < length zs → IsTrue (is_of in_text (get_or zs i d)) → (get_or zs i d).at + 4 ≤ length
    (contents_of in_text o)) (sym e) (λ l t. inside_part o in_text (get_or o.relocs i d) (linkable.inside i d l) t) lt of in
    subst (λ (n : ℕ). (get_or ys i d).at + 4 ≤ n) (sym len) inside

pub filled_room : (bs : List Base) (gs : List (List ℕ × Target)) (p : ℕ × ObjectParts) (in_text : Bool) (ys : List Reloc) (i : ℕ)
    (d : Reloc) (bytes new : List ℕ) → IsLinkable p.1 → ys ≡ p.1.relocs → i < length ys → length bytes ≡ length (contents_of in_text p.1)
    → new ≡ filled bs gs p in_text bytes (get_or ys i d) → length new ≡ length (contents_of in_text p.1)
filled_room bs gs p in_text ys i d bytes new linkable e lt len step =
    let fits =
    subst (λ (zs : List Reloc). i < length zs → (get_or zs i d).at + 4 ≤ cond (get_or zs i d).in_text (length p.1.text) (length p.1.init))
    (sym e) (λ l. linkable.inside i d l) lt in
    ap length step ∙ (length-filled bs gs p in_text bytes (get_or ys i d) fits len ∙ len)

-- the relocation at k names a symbol and has its field in its part
abbrev pub HasRoomAt : ObjectParts → ℕ → Type 0
HasRoomAt o k = (d : Reloc) → ((get_or o.relocs k d).symbol < length o.symbols)
    × ((get_or o.relocs k d).at + 4 ≤ cond (get_or o.relocs k d).in_text (length o.text) (length o.init))

pub room_at : (o : ObjectParts) (ys : List Reloc) (k : ℕ) (d : Reloc) → ys ≡ o.relocs → k < length ys
    → (get_or ys k d).symbol < length o.symbols → (get_or ys k d).at + 4 ≤ cond (get_or ys k d).in_text (length o.text)
    (length o.init) → HasRoomAt o k
room_at o ys k d e lt symbol field e' =
    let same : get_or ys k d ≡ get_or o.relocs k e' = get_or_default ys k d e' lt ∙ ap (λ (zs : List Reloc). get_or zs k e') e in (
      subst (λ (r : Reloc). r.symbol < length o.symbols) same symbol,
      subst (λ (r : Reloc). r.at + 4 ≤ cond r.in_text (length o.text) (length o.init)) same field,
    )

pub linkable_from : (o : ObjectParts) → ((k : ℕ) → k < length o.relocs → HasRoomAt o k) → length o.sites < 2 ^ 32 → IsLinkable o
linkable_from o rooms short = record { named = λ k d h. (rooms k h d).0; inside = λ k d h. (rooms k h d).1; sites = short }
