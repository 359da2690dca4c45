-- What a sink has taken after one put and then another.
use Rattle.std.proofs.Common.{◌≡◌, ℕ, List, ◌++◌, Option, Some, None, ap, sym, ◌∙◌}
use Rattle.std.proofs.lemmas.List.{append_assoc}
use Rattle.pv_io.specs.Sink.{Appends, AppendsFront}

pub both : (old mid new : Option (List ℕ)) (xs ys : List ℕ) → Appends old mid xs → Appends mid new ys → Appends old new (xs ++ ys)
both None mid new xs ys first second = tt
both (Some old) None new xs ys first second = absurd (cc)
both (Some old) (Some mid) new xs ys first second =
    let same : mid ≡ old ++ xs = cc in
    second ∙ ap (λ (z : List ℕ). Some z) (ap (λ (z : List ℕ). z ++ ys) same ∙ append_assoc old xs ys)

-- the second put fails
pub then_front : (old mid new : Option (List ℕ)) (xs ys : List ℕ) → Appends old mid xs → AppendsFront mid new ys
    → AppendsFront old new (xs ++ ys)
then_front old mid new xs ys first second = record {
  front = xs ++ second.front;
  rest = second.rest;
  whole = append_assoc xs second.front second.rest ∙ ap (λ (z : List ℕ). xs ++ z) second.whole;
  taken = both old mid new xs second.front first second.taken;
}

-- the first put fails
pub front_of_both : (old new : Option (List ℕ)) (xs ys : List ℕ) → AppendsFront old new xs → AppendsFront old new (xs ++ ys)
front_of_both old new xs ys h = record {
  front = h.front;
  rest = h.rest ++ ys;
  whole = sym (append_assoc h.front h.rest ys) ∙ ap (λ (z : List ℕ). z ++ ys) h.whole;
  taken = h.taken;
}
