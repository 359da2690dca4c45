-- The lines of a listing that were put.
use Rattle.std.proofs.Common.{◌≡◌, ℕ, ◌≤◌, List, [], ◌∷◌, ◌++◌, Option, length, sym, ap, subst, ◌∙◌, append_assoc}
use Rattle.std.specs.List.{flat_map}
use Rattle.std.proofs.lemmas.List.{flat_map_more}
use Rattle.std.proofs.lemmas.List.Concat.{flat_map-append}
use Rattle.pv_io.specs.Sink.{Appends, AppendsFront}
use Rattle.pv_io.proofs.Pieces.{appends_both, front_of}
use Rattle.image_check.specs.Image.{Image}
use Rattle.image_check.specs.Sweep.{Swept}
use Rattle.image_check.specs.Standing.{swept_of}
use Rattle.pv_look.specs.declared.here.Here.{Here}
use Rattle.pv_look.specs.Here.{swept}
use Rattle.pv_look.specs.Lines.{lines_of}
use Rattle.pv_look.specs.Listing.{head, listing}
use Rattle.pv_look.specs.Sweeping.{Reached, GoesOn}
use Rattle.pv_look.proofs.Sweeps.{all_done}

-- what was put of the instructions that are done
abbrev pub put_of : Image → List Swept → List ℕ
put_of image done = head ++ flat_map (lines_of image) done

-- one more
pub one_put : (image : Image) (s : Swept) (done : List Swept) (a b c : Option (List ℕ)) → Appends a b (put_of image done)
    → Appends b c (lines_of image s)
    → Appends a c (put_of image (done ++ s ∷ []))
one_put image s done a b c p q =
    subst (λ (text : List ℕ). Appends a c text) (flat_map_more (lines_of image) head done s)
    (appends_both a b c (put_of image done) (lines_of image s) p q)

-- all
pub all_put : (image : Image) (at : ℕ) (done rest : List Swept) (a b : Option (List ℕ)) → Reached image.text at done rest
    → length image.text ≤ at
    → Appends a b (put_of image done) → Appends a b (listing image)
unfolding listing
all_put image at done rest a b r le p = subst (λ (xs : List Swept). Appends a b (put_of image xs)) (all_done image.text at done rest r le) p

split : (image : Image) (s : Swept) (done rest more : List Swept) → done ++ rest ≡ swept_of image.text → rest ≡ s ∷ more
    → listing image ≡ put_of image done ++ (lines_of image s ++ flat_map (lines_of image) more)
unfolding listing
split image s done rest more whole is =
    ap (λ (xs : List Swept). head ++ flat_map (lines_of image) xs) (sym whole ∙ ap (λ (r : List Swept). done ++ r) is)
    ∙ (ap (λ (text : List ℕ). head ++ text) (flat_map-append (lines_of image) done (s ∷ more))
    ∙ sym (append_assoc head (flat_map (lines_of image) done) (lines_of image s ++ flat_map (lines_of image) more)))

-- a front of one more is a front of the listing
pub cut_within : (image : Image) (h : Here) (at : ℕ) (done rest : List Swept) (a b c : Option (List ℕ)) → Reached image.text at done rest
    → GoesOn image.text h done rest
    → Appends a b (put_of image done) → AppendsFront b c (lines_of image (swept h)) → AppendsFront a c (listing image)
cut_within image h at done rest a b c r g p q =
    front_of a b c (put_of image done) (lines_of image (swept h)) (flat_map (lines_of image) g.more) (listing image) p q
    (split image (swept h) done rest g.more r.whole g.whole)

-- and so is a front of the head
pub cut_at_head : (image : Image) (a b : Option (List ℕ)) → AppendsFront a b head → AppendsFront a b (listing image)
unfolding listing
cut_at_head image a b q = record {
  front = q.front;
  rest = q.rest ++ flat_map (lines_of image) (swept_of image.text);
  whole = sym (append_assoc q.front q.rest (flat_map (lines_of image) (swept_of image.text)))
      ∙ ap (λ (text : List ℕ). text ++ flat_map (lines_of image) (swept_of image.text)) q.whole;
  taken = q.taken;
}
