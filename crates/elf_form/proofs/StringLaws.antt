-- A string table with one more name.
use Rattle.std.proofs.Common.{◌≡◌, ℕ, ◌+◌, Bool, true, false, cond, List, [], ◌∷◌, ◌++◌, length, Option, Some, None, refl, sym, ap, ◌∙◌, subst, arith, append_assoc}
use Rattle.std.specs.Prelude.{is_some}
use Rattle.std.specs.HashMap as hash
use Rattle.std.specs.HashMap.{HashMap}
use Rattle.std.proofs.lemmas.Map.Text.{hash_map_updates_str}
use denote.Ref.{Bor}
use Rattle.std.proofs.lemmas.List.{length-append, append-nil}
use Rattle.std.proofs.lemmas.Slice.Eq.{bytes_eq-Decides}
use Rattle.std.specs.Str.{bytes_eq}
use Rattle.std.proofs.lemmas.Bool.{both_ways}
use Rattle.elf_form.specs.Tables.{further}
use Rattle.elf_form.specs.StringTable.{place_in, with_name, table_bytes}
use Rattle.elf_form.specs.Writable.{IsStringTable}

pub table_bytes-append : (names : List (List ℕ)) (name : List ℕ) → table_bytes (names ++ name ∷ []) ≡ table_bytes names ++ (name ++ 0 ∷ [])
unfolding table_bytes
table_bytes-append [] name = append-nil (name ++ 0 ∷ [])
table_bytes-append (n ∷ names) name =
    rw (table_bytes-append names name) (sym (append_assoc (n ++ 0 ∷ []) (table_bytes names) (name ++ 0 ∷ [])))

-- the place of a name, where one more stands at the end
abbrev pub else_last : Option ℕ → Bool → ℕ → Option ℕ
else_last (Some at) same end = Some at
else_last None true end = Some end
else_last None false end = None

further-last : (k end : ℕ) (same : Bool) (o : Option ℕ) → further k (else_last o same end) ≡ else_last (further k o) same (end + k)
further-last k end true None = refl
further-last k end false None = refl
further-last k end same (Some at) = refl

pub place_in-append : (names : List (List ℕ)) (name q : List ℕ) → place_in (names ++ name ∷ []) q ≡ else_last (place_in names q)
    (bytes_eq q name) (length (table_bytes names))
unfolding table_bytes
place_in-append [] name q = split (bytes_eq q name) refl where
  split : (b : Bool) → bytes_eq q name ≡ b → cond b (Some 0) None ≡ else_last None b 0
  split true e = refl
  split false e = refl
place_in-append (n ∷ names) name q = split (bytes_eq q n) (place_in-append names name q) where
  len : length (table_bytes names) + (length n + 1) ≡ length ((n ++ 0 ∷ []) ++ table_bytes names)
  len = omega (arith, length-append (n ++ 0 ∷ []) (table_bytes names), length-append n (0 ∷ []))

  split : (b : Bool) → place_in (names ++ name ∷ []) q ≡ else_last (place_in names q) (bytes_eq q name) (length (table_bytes names))
      → cond b (Some 0) (further (length n + 1) (place_in (names ++ name ∷ []) q)) ≡ else_last
      (cond b (Some 0) (further (length n + 1) (place_in names q))) (bytes_eq q name) (length (table_bytes (n ∷ names)))
  split true before = refl
  split false before = ap (further (length n + 1)) before ∙ further-last (length n + 1) (length (table_bytes names)) (bytes_eq q name)
      (place_in names q) ∙ ap (else_last (further (length n + 1) (place_in names q)) (bytes_eq q name)) len

-- the place of each name, once one that had none stands at the end
last_true : (a b : ℕ) (o : Option ℕ) → o ≡ None → a ≡ b → Some a ≡ else_last o true b
last_true a b None none e = ap Some e
last_true a b (Some at) none e = absurd cc

last_false : (b : ℕ) (o : Option ℕ) → o ≡ else_last o false b
last_false b None = refl
last_false b (Some at) = refl

pub place_in-new : (names : List (List ℕ)) (name q : List ℕ) (at : ℕ) → place_in names name ≡ None → at ≡ length (table_bytes names)
    → cond (bytes_eq name q) (Some at) (place_in names q) ≡ place_in (names ++ name ∷ []) q
place_in-new names name q at none e = split (bytes_eq name q) (bytes_eq q name) refl refl ∙ sym (place_in-append names name q) where
  split : (b c : Bool) → bytes_eq name q ≡ b → bytes_eq q name ≡ c → cond b (Some at) (place_in names q) ≡ else_last (place_in names q) c
      (length (table_bytes names))
  split true true is back =
      last_true at _ (place_in names q) (subst (λ (x : List ℕ). place_in names x ≡ None) ((bytes_eq-Decides name q).0 is) none) e
  split false false is back = last_false _ (place_in names q)
  split true false is back = absurd (both_ways _ back ((bytes_eq-Decides q name).1 (sym ((bytes_eq-Decides name q).0 is))))
  split false true is back = absurd (both_ways _ is ((bytes_eq-Decides name q).1 (sym ((bytes_eq-Decides q name).0 back))))

no_place : (o : Option ℕ) → is_some o ≡ false → o ≡ None
no_place None e = refl
no_place (Some at) e = absurd cc

stays : (names : List (List ℕ)) (name : List ℕ) (o : Option ℕ) → is_some o ≡ true → cond (is_some o) names (names ++ name ∷ []) ≡ names
stays names name None e = absurd cc
stays names name (Some at) e = refl

module _ {S : Type 0} (names : List (List ℕ)) (name strings : List ℕ) (map : HashMap (Bor (List ℕ)) ℕ S)
    (is : IsStringTable names strings map) where
  pub placed : (b : Bool) → b ≡ is_some (hash.get_by (λ k. bytes_eq name k.now) map) → b ≡ true
      → IsStringTable (with_name names name) strings map
  placed b e h = rw (stays names name (place_in names name) (ap is_some (sym (is.has.places name)) ∙ sym e ∙ h)) is

  pub added : (b : Bool) (at : ℕ) (some last : List ℕ) (new : HashMap (Bor (List ℕ)) ℕ S)
      → b ≡ is_some (hash.get_by (λ k. bytes_eq name k.now) map) → b ≡ false → at ≡ length strings
      → some ≡ strings ++ name → last ≡ some ++ 0 ∷ [] → hash.UpdatesBy (λ x y. bytes_eq x.now y.now) (λ k. bytes_eq name k.now) map new
      (Some at) → IsStringTable (with_name names name) last new
  added b at some last new e h len one two updates =
      let none : place_in names name ≡ None = no_place (place_in names name) (ap is_some (sym (is.has.places name)) ∙ sym e ∙ h) in
      let here : at ≡ length (table_bytes names) = len ∙ ap length is.bytes in
      rw none (record {
        bytes = two ∙ ap (λ (x : List ℕ). x ++ 0 ∷ []) one ∙ append_assoc strings name (0 ∷ [])
            ∙ ap (λ (x : List ℕ). x ++ (name ++ 0 ∷ [])) is.bytes ∙ sym (table_bytes-append names name);
        has =
            record {
              places = λ q. hash_map_updates_str name map new (Some at) updates q ∙ ap (cond (bytes_eq name q) (Some at))
                  (is.has.places q) ∙ place_in-new names name q at none here;
            };
      })
