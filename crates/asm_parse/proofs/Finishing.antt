-- What has been read of an argument can go on to its end.
use Rattle.std.proofs.Common.{◌≡◌, true, false, List, [], ◌∷◌, Some, None, refl}
use Rattle.std.specs.Prelude.{pos, not}
use Rattle.asm_argument.specs.declared.shape.Shape.{Shape}
use Rattle.asm_argument.specs.declared.shape.Shape.TheVariants as shape
use Rattle.asm_argument.specs.declared.operand.ValuePlace.TheVariants as place
use Rattle.asm_argument.specs.declared.operand.Partial.{Partial}
use Rattle.asm_argument.specs.declared.operand.Partial.TheVariants as partial
use Rattle.asm_source.specs.declared.tree.Form.{Form}
use Rattle.asm_source.specs.declared.tree.Form.TheVariants as form
use Rattle.asm_argument.specs.Operand.{finished, is_nothing}
use Rattle.asm_argument.specs.Shapes.{takes_numbers, fits, is_register, registers, signed, named, plain}
use Rattle.asm_argument.specs.declared.escapes.Escape.TheVariants as escape
use Rattle.asm_argument.specs.Escapes.{string_text}
use Rattle.asm_argument.proofs.Operands.{ok, operand_run}
use Rattle.asm_parse.proofs.Names.{named_in}
use Rattle.asm_parse.proofs.Written.{Piece, terminals_of, ArePieces, name_piece, one_piece, zero_piece, text_piece, percent_piece, close_piece, low, low_name, the_name, the_one, the_zero, the_text, the_mark}

pub record Finish (sh : Shape) (p : Partial) : Type 0 where
  pub pieces : List Piece
  pub are : ArePieces pieces
  pub last : Partial
  pub form : Form
  pub runs : operand_run sh p (terminals_of pieces) ≡ ok last
  pub ends : finished last ≡ Some form
  pub names : named_in last ≡ named_in p

low_register : is_register low ≡ true
unfolding is_register registers
low_register = refl

done : (sh : Shape) (p : Partial) (f : Form) → finished p ≡ Some f → Finish sh p
done sh p f e = record { pieces = []; are = tt; last = p; form = f; runs = refl; ends = e; names = refl }

number_nothing : (sh : Shape) → takes_numbers sh ≡ true → fits sh false 1 ≡ true → Finish sh partial.Nothing
number_nothing sh t u = record {
  pieces = the_one ∷ [];
  are = (one_piece, tt);
  last = partial.Number place.Memory (plain (pos 1));
  form = form.Memory (Some (plain (pos 1))) None None 1;
  runs = rw (t, u, operand_run) refl;
  ends = refl;
  names = refl;
}

finish_nothing : (sh : Shape) → (sh ≡ shape.Name → ⊥) → Finish sh partial.Nothing
finish_nothing shape.Operand never = number_nothing shape.Operand refl refl
finish_nothing shape.Value never = number_nothing shape.Value refl refl
finish_nothing shape.Number never = number_nothing shape.Number refl refl
finish_nothing shape.Count never = number_nothing shape.Count refl refl
finish_nothing shape.Alignment never = number_nothing shape.Alignment refl refl
finish_nothing shape.Power never = number_nothing shape.Power refl refl
finish_nothing shape.Fill never = number_nothing shape.Fill refl refl
finish_nothing shape.Name never = absurd (never refl)
finish_nothing shape.Text never = record {
  pieces = the_text ∷ [];
  are = (text_piece, tt);
  last = partial.Whole (form.Text (string_text escape.Open (34 ∷ 34 ∷ [])));
  form = form.Text (string_text escape.Open (34 ∷ 34 ∷ []));
  runs = refl;
  ends = refl;
  names = refl;
}

zero_fits : (sh : Shape) → fits sh true 0 ≡ true
zero_fits shape.Count = refl
zero_fits shape.Alignment = refl
zero_fits shape.Power = refl
zero_fits _ = refl

low_close : ArePieces (the_name low ∷ the_mark 41 ∷ [])
low_close = (name_piece low low_name, (close_piece, tt))

pub finish : (sh : Shape) (p : Partial) → (is_nothing p ≡ true → sh ≡ shape.Name → ⊥) → Finish sh p
finish sh partial.Nothing never = finish_nothing sh (never refl)
finish sh partial.Absent never = done sh partial.Absent form.Absent refl
finish sh partial.Percent never = record {
  pieces = the_name low ∷ [];
  are = (name_piece low low_name, tt);
  last = partial.Whole (form.Register low);
  form = form.Register low;
  runs = rw (low_register, operand_run) refl;
  ends = refl;
  names = refl;
}
finish sh partial.Dollar never = record {
  pieces = the_one ∷ [];
  are = (one_piece, tt);
  last = partial.Number place.Immediate (plain (pos 1));
  form = form.Immediate (plain (pos 1));
  runs = refl;
  ends = refl;
  names = refl;
}
finish sh (partial.Minus place.Memory) never = record {
  pieces = the_zero ∷ [];
  are = (zero_piece, tt);
  last = partial.Number place.Memory (plain (signed true 0));
  form = form.Memory (Some (plain (signed true 0))) None None 1;
  runs = rw (zero_fits sh, operand_run) refl;
  ends = refl;
  names = refl;
}
finish sh (partial.Minus place.Immediate) never = record {
  pieces = the_zero ∷ [];
  are = (zero_piece, tt);
  last = partial.Number place.Immediate (plain (signed true 0));
  form = form.Immediate (plain (signed true 0));
  runs = rw (zero_fits sh, operand_run) refl;
  ends = refl;
  names = refl;
}
finish sh (partial.Name place.Memory n) never =
    done sh (partial.Name place.Memory n) (form.Memory (Some (named n (pos 0))) None None 1) refl
finish sh (partial.Name place.Immediate n) never = done sh (partial.Name place.Immediate n) (form.Immediate (named n (pos 0))) refl
finish sh (partial.Sign place.Memory n b) never = record {
  pieces = the_one ∷ [];
  are = (one_piece, tt);
  last = partial.Number place.Memory (named n (signed b 1));
  form = form.Memory (Some (named n (signed b 1))) None None 1;
  runs = refl;
  ends = refl;
  names = refl;
}
finish sh (partial.Sign place.Immediate n b) never = record {
  pieces = the_one ∷ [];
  are = (one_piece, tt);
  last = partial.Number place.Immediate (named n (signed b 1));
  form = form.Immediate (named n (signed b 1));
  runs = refl;
  ends = refl;
  names = refl;
}
finish sh (partial.SignMinus place.Memory n b) never = record {
  pieces = the_one ∷ [];
  are = (one_piece, tt);
  last = partial.Number place.Memory (named n (signed (not b) 1));
  form = form.Memory (Some (named n (signed (not b) 1))) None None 1;
  runs = refl;
  ends = refl;
  names = refl;
}
finish sh (partial.SignMinus place.Immediate n b) never = record {
  pieces = the_one ∷ [];
  are = (one_piece, tt);
  last = partial.Number place.Immediate (named n (signed (not b) 1));
  form = form.Immediate (named n (signed (not b) 1));
  runs = refl;
  ends = refl;
  names = refl;
}
finish sh (partial.Number place.Memory v) never = done sh (partial.Number place.Memory v) (form.Memory (Some v) None None 1) refl
finish sh (partial.Number place.Immediate v) never = done sh (partial.Number place.Immediate v) (form.Immediate v) refl
finish sh (partial.Open v) never = record {
  pieces = the_mark 37 ∷ the_name low ∷ the_mark 41 ∷ [];
  are = (percent_piece, low_close);
  last = partial.Whole (form.Memory v (Some low) None 1);
  form = form.Memory v (Some low) None 1;
  runs = rw (low_register, operand_run) refl;
  ends = refl;
  names = refl;
}
finish sh (partial.BasePercent v) never = record {
  pieces = the_name low ∷ the_mark 41 ∷ [];
  are = low_close;
  last = partial.Whole (form.Memory v (Some low) None 1);
  form = form.Memory v (Some low) None 1;
  runs = rw (low_register, operand_run) refl;
  ends = refl;
  names = refl;
}
finish sh (partial.Base v b) never = record {
  pieces = the_mark 41 ∷ [];
  are = (close_piece, tt);
  last = partial.Whole (form.Memory v (Some b) None 1);
  form = form.Memory v (Some b) None 1;
  runs = refl;
  ends = refl;
  names = refl;
}
finish sh (partial.IndexComma v b) never = record {
  pieces = the_mark 37 ∷ the_name low ∷ the_mark 41 ∷ [];
  are = (percent_piece, low_close);
  last = partial.Whole (form.Memory v b (Some low) 1);
  form = form.Memory v b (Some low) 1;
  runs = rw (low_register, operand_run) refl;
  ends = refl;
  names = refl;
}
finish sh (partial.IndexPercent v b) never = record {
  pieces = the_name low ∷ the_mark 41 ∷ [];
  are = low_close;
  last = partial.Whole (form.Memory v b (Some low) 1);
  form = form.Memory v b (Some low) 1;
  runs = rw (low_register, operand_run) refl;
  ends = refl;
  names = refl;
}
finish sh (partial.Index v b i) never = record {
  pieces = the_mark 41 ∷ [];
  are = (close_piece, tt);
  last = partial.Whole (form.Memory v b (Some i) 1);
  form = form.Memory v b (Some i) 1;
  runs = refl;
  ends = refl;
  names = refl;
}
finish sh (partial.Scale v b i) never = record {
  pieces = the_one ∷ the_mark 41 ∷ [];
  are = (one_piece, (close_piece, tt));
  last = partial.Whole (form.Memory v b (Some i) 1);
  form = form.Memory v b (Some i) 1;
  runs = refl;
  ends = refl;
  names = refl;
}
finish sh (partial.Scaled v b i s) never = record {
  pieces = the_mark 41 ∷ [];
  are = (close_piece, tt);
  last = partial.Whole (form.Memory v b (Some i) s);
  form = form.Memory v b (Some i) s;
  runs = refl;
  ends = refl;
  names = refl;
}
finish sh (partial.Whole f) never = done sh (partial.Whole f) f refl
