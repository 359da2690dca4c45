-- Tests in an order give the first cause by which a file is wrong, and their value exactly where it is wrong by none.
use Rattle.std.proofs.Common.{◌≡◌, ℕ, List, [], ◌∷◌, ◌++◌, Option, Some, None, Result, Ok, Err, refl, sym, ap, ◌∙◌, inl, inr, ◌⊎◌}
use Rattle.elf_form.specs.declared.cause.ElfCause.{ElfCause}
use Rattle.elf_form.specs.declared.cause.ElfCause.TheVariants.{Truncated, Magic, Class, Encoding, Version, FileType, Machine, Sizes, SectionForm, Compressed, StringPlace, SymbolForm, RelocForm}
use Rattle.elf_form.specs.Faults.{Fault, test, tested, causes, ◌>>=◌}
use Rattle.elf_form.specs.Order.{IsFirstOf}
use Rattle.elf_form.specs.Stages.{and_then, header_causes, section_causes, identified}
use Rattle.elf_form.specs.Header.{cut, wrong_file}
use Rattle.elf_form.proofs.FormLaws.{tested_none}

abbrev pub failed : (A : Type 0) → Fault → Result A Fault
failed A d = Err d

err_is : (A : Type 0) (d e : Fault) → failed A d ≡ failed A e → d ≡ e
err_is A d e h = cc

test-err : (c : ElfCause) (o : Option ℕ) (e : Fault) → test c o ≡ failed (Unit {0}) e → (o ≡ Some e.at) × (e.cause ≡ c)
test-err c None e h = absurd cc
test-err c (Some at) e h =
    let same = err_is (Unit {0}) (record { at = at; cause = c }) e h in
    (ap (λ (f : Fault). Some f.at) same, sym (ap (λ (f : Fault). f.cause) same))

bind_err : (A B : Type 0) (r : Result A Fault) (f : A → Result B Fault) (e : Fault) → (r >>= f) ≡ failed B e → (r ≡ failed A e)
    ⊎ ((x : A) × (r ≡ Ok x) × (f x ≡ failed B e))
bind_err A B (Ok x) f e h = inr (x, refl, h)
bind_err A B (Err d) f e h = inl (ap (failed A) (err_is B d e h))

bind_ok : (A B : Type 0) (r : Result A Fault) (f : A → Result B Fault) (y : B) → (r >>= f) ≡ Ok y → (x : A) × (r ≡ Ok x) × (f x ≡ Ok y)
bind_ok A B (Ok x) f y h = (x, refl, h)
bind_ok A B (Err d) f y h = absurd cc

module _ (A : Type 0) (wrong : ElfCause → Option ℕ) where
  pub tested-err : (cs : List ElfCause) (x : A) (e : Fault) → tested wrong cs x ≡ failed A e → IsFirstOf wrong cs e.at e.cause
  unfolding tested
  tested-err [] x e h = absurd cc
  tested-err (c ∷ cs) x e h =
      elim (bind_err (Unit {0}) A (test c (wrong c)) (λ _. tested wrong cs x) e h) [
        | inl fails ↦ inl (test-err c (wrong c) e fails)
        | inr goes ↦ inr (tested_none c (wrong c) goes.1, tested-err cs x e goes.2)
      ]

  pub first_tested : (cs : List ElfCause) (x : A) (e : Fault) → IsFirstOf wrong cs e.at e.cause → tested wrong cs x ≡ failed A e
  unfolding tested
  first_tested [] x e h = absurd h
  first_tested (c ∷ cs) x e (inl (here, same)) =
      ap (λ (o : Option ℕ). test c o >>= λ _. tested wrong cs x) here
      ∙ ap (λ (d : ElfCause). failed A (record { at = e.at; cause = d })) (sym same)
  first_tested (c ∷ cs) x e (inr (none, later)) =
      ap (λ (o : Option ℕ). test c o >>= λ _. tested wrong cs x) none ∙ first_tested cs x e later

  abbrev AllNone : List ElfCause → Type 0
  AllNone [] = Unit {0}
  AllNone (c ∷ cs) = (wrong c ≡ None) × AllNone cs

  tested-all : (cs : List ElfCause) (x y : A) → tested wrong cs x ≡ Ok y → AllNone cs × (x ≡ y)
  unfolding tested
  tested-all [] x y h = (tt, cc)
  tested-all (c ∷ cs) x y h =
      let goes = bind_ok (Unit {0}) A (test c (wrong c)) (λ _. tested wrong cs x) y h in
      let rest = tested-all cs x y goes.2 in
      ((tested_none c (wrong c) goes.1, rest.0), rest.1)

  each_none : AllNone causes → (c : ElfCause) → wrong c ≡ None
  each_none all Truncated = all.0
  each_none all Magic = all.1.0
  each_none all Class = all.1.1.0
  each_none all Encoding = all.1.1.1.0
  each_none all Version = all.1.1.1.1.0
  each_none all FileType = all.1.1.1.1.1.0
  each_none all Machine = all.1.1.1.1.1.1.0
  each_none all Sizes = all.1.1.1.1.1.1.1.0
  each_none all SectionForm = all.1.1.1.1.1.1.1.1.0
  each_none all Compressed = all.1.1.1.1.1.1.1.1.1.0
  each_none all StringPlace = all.1.1.1.1.1.1.1.1.1.1.0
  each_none all SymbolForm = all.1.1.1.1.1.1.1.1.1.1.1.0
  each_none all RelocForm = all.1.1.1.1.1.1.1.1.1.1.1.1.0

  pub tested-ok : (x y : A) → tested wrong causes x ≡ Ok y → ((c : ElfCause) → wrong c ≡ None) × (x ≡ y)
  tested-ok x y h = let ok = tested-all causes x y h in (each_none ok.0, ok.1)

  pub sound_tested : (cs : List ElfCause) (x : A) → ((c : ElfCause) → wrong c ≡ None) → tested wrong cs x ≡ Ok x
  unfolding tested
  sound_tested [] x h = refl
  sound_tested (c ∷ cs) x h = rw (h c) (sound_tested cs x h)

  -- the tests of two lists of causes, one after the other
  tested-append : (cs ds : List ElfCause) (x : A) → (tested wrong cs (tt {0}) >>= λ _. tested wrong ds x) ≡ tested wrong (cs ++ ds) x
  unfolding tested
  tested-append [] ds x = refl
  tested-append (c ∷ cs) ds x = by (wrong c) (tested-append cs ds x) where
    by : (o : Option ℕ) → (tested wrong cs (tt {0}) >>= λ _. tested wrong ds x) ≡ tested wrong (cs ++ ds) x
        → ((test c o >>= λ _. tested wrong cs (tt {0})) >>= λ _. tested wrong ds x) ≡ (test c o >>= λ _. tested wrong (cs ++ ds) x)
    by None e = e
    by (Some at) e = refl

-- the tests of a file, of which those of the header come first
module _ (A : Type 0) (wanted : ℕ) (inner : ElfCause → Option ℕ) (bytes : List ℕ) (x : A) where
  pub cut_first : (at : ℕ) → Some at ≡ cut bytes → tested (wrong_file wanted inner bytes) causes x ≡ failed A
      (record { at = at; cause = Truncated })
  unfolding tested
  cut_first at is =
      sym (ap (λ (o : Option ℕ). test Truncated o >>= λ _. tested (wrong_file wanted inner bytes)
      (header_causes ++ Sizes ∷ section_causes) x) is)

  identified_first : (later : List ElfCause) → and_then (identified wanted bytes) (tested (wrong_file wanted inner bytes) later x) ≡ tested
      (wrong_file wanted inner bytes) (header_causes ++ later) x
  unfolding identified tested
  identified_first later = tested-append A (wrong_file wanted inner bytes) header_causes later x

  pub whole_first : None ≡ cut bytes
      → and_then (identified wanted bytes) (tested (wrong_file wanted inner bytes) (Sizes ∷ section_causes) x) ≡ tested
      (wrong_file wanted inner bytes) causes x
  unfolding tested
  whole_first is = identified_first (Sizes ∷ section_causes)
      ∙ ap (λ (o : Option ℕ). test Truncated o >>= λ _. tested (wrong_file wanted inner bytes) (header_causes ++ Sizes ∷ section_causes) x)
      is
