-- Lists that were written one after the other.
use Rattle.std.proofs.Common.{◌≡◌, ℕ, List, ◌++◌, [], ◌∷◌, sym, ap, ◌∙◌, append_assoc}
use Rattle.std.proofs.lemmas.List.{append-nil}

pub joined : (old mid new a b : List ℕ) → mid ≡ old ++ a → new ≡ mid ++ b → new ≡ old ++ (a ++ b)
joined old mid new a b first second = second ∙ ap (λ (x : List ℕ). x ++ b) first ∙ append_assoc old a b

pub chain_tables : (o a b c d e f : List ℕ) → ((((o ++ a) ++ b) ++ c) ++ (d ++ e)) ++ f ≡ o ++ (a ++ (b ++ (c ++ (d ++ (e ++ f)))))
chain_tables o a b c d e f = simp append_assoc

pub chain_body : (o a b c d e f : List ℕ) → (((o ++ (a ++ b)) ++ (c ++ d)) ++ e) ++ f ≡ o ++ (a ++ (b ++ (c ++ (d ++ (e ++ f)))))
chain_body o a b c d e f = simp append_assoc

pub chain_parts : (o a b c d e f : List ℕ) → ((o ++ (a ++ b)) ++ (c ++ d)) ++ (e ++ f) ≡ o ++ (a ++ (b ++ (c ++ (d ++ (e ++ f)))))
chain_parts o a b c d e f = simp append_assoc

pub chain_file : (o a b c d e : List ℕ) → ((((o ++ a) ++ b) ++ c) ++ d) ++ e ≡ o ++ (a ++ (b ++ (c ++ (d ++ e))))
chain_file o a b c d e = simp append_assoc

-- the parts of a file by what stands before and after each
module _ (h l z s : List ℕ) where
  pub behind_front : (b : List ℕ) → (h ++ (l ++ (z ++ b))) ++ s ≡ h ++ (l ++ (z ++ (b ++ s)))
  behind_front b = simp append_assoc

  pub behind_tables : (t r : List ℕ) → (h ++ (l ++ z)) ++ (t ++ (r ++ s)) ≡ h ++ (l ++ (z ++ ((t ++ r) ++ s)))
  behind_tables t r = simp append_assoc

  pub behind_text : (t p i r : List ℕ) → (h ++ (l ++ (z ++ (t ++ p)))) ++ (i ++ (r ++ s)) ≡ h ++ (l ++ (z ++ ((t ++ (p ++ (i ++ r))) ++ s)))
  behind_text t p i r = simp append_assoc

  pub behind_init : (t p i q a r : List ℕ) → (h ++ (l ++ (z ++ (t ++ (p ++ (i ++ q)))))) ++ (a ++ (r ++ s)) ≡ h
      ++ (l ++ (z ++ ((t ++ (p ++ (i ++ (q ++ (a ++ r))))) ++ s)))
  behind_init t p i q a r = simp append_assoc

  pub behind_sites : (t p i q a n r : List ℕ) → (h ++ (l ++ (z ++ (t ++ (p ++ (i ++ (q ++ a))))))) ++ (n ++ (r ++ s)) ≡ h
      ++ (l ++ (z ++ ((t ++ (p ++ (i ++ (q ++ (a ++ (n ++ r)))))) ++ s)))
  behind_sites t p i q a n r = simp append_assoc

pub in_one_row : (t p i q a r b c d e u n v s : List ℕ) → (t ++ (p ++ (i ++ (q ++ (a ++ r)))))
    ++ ((b ++ (c ++ (d ++ (e ++ (u ++ (n ++ v)))))) ++ s) ≡ t
    ++ (p ++ (i ++ (q ++ (a ++ (r ++ (b ++ (c ++ (d ++ (e ++ (u ++ (n ++ (v ++ s))))))))))))
in_one_row t p i q a r b c d e u n v s = simp append_assoc

pub behind_two : (h p t s : List ℕ) → (h ++ (p ++ t)) ++ s ≡ h ++ (p ++ (t ++ s))
behind_two h p t s = simp append_assoc

-- an element moves from the rest to what was collected
pub one_more : {A : Type 0} (out : List A) (x : A) (next left : List A) → left ≡ x ∷ next → (out ++ x ∷ []) ++ next ≡ out ++ left
one_more out x next left is = append_assoc out (x ∷ []) next ∙ ap (λ rest. out ++ rest) (sym is)

pub some_more : {A : Type 0} (out xs next left : List A) → left ≡ xs ++ next → (out ++ xs) ++ next ≡ out ++ left
some_more out xs next left is = append_assoc out xs next ∙ ap (λ rest. out ++ rest) (sym is)

pub no_more : {A : Type 0} (out left : List A) → left ≡ [] → out ≡ out ++ left
no_more out left is = sym (append-nil out) ∙ ap (λ rest. out ++ rest) (sym is)
