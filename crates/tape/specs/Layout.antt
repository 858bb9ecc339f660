-- The layout of a step: "each a 3-bit kind and its fields" (01, "The tape"). One table, of an edition, for reading and for writing.
use Rattle.std.specs.Prelude.{ℕ, suc, ◌+◌, ◌^◌, List, [], ◌∷◌, Bool, true, false, cond, Option, None, Some, take, drop, get_or, leb, eqb}
use Rattle.tape.specs.Bits.{num, bits, field_at}
use Rattle.tape.specs.Edition.{Field, field, step_width, Edition}
use Rattle.tape.specs.declared.layout.Bound.{Bound}
use Rattle.tape.specs.declared.layout.Layout.{Layout}
use Rattle.tape.specs.declared.Fields.{Fields}

-- the fields of a kind; none where no step has the kind
abbrev pub fields : Edition → ℕ → List Field
fields ed k = get_or ed.rows k []

-- the bits of a step of a kind; 0 where no step has the kind
abbrev pub width : Edition → ℕ → ℕ
width ed k = step_width (fields ed k)

-- each field of some bits holds a number that it may hold
unfoldable pub fields_allowed : List Field → List Bool → Bool
fields_allowed [] f = true
fields_allowed (x ∷ xs) f =
    cond (leb x.least (num (take x.width f))) (cond (leb (num (take x.width f)) x.most) (fields_allowed xs (drop x.width f)) false) false

-- the bits of a step, its kind among them, hold numbers that they may hold
unfoldable pub legal : Edition → List Bool → Bool
legal ed f = fields_allowed (fields ed (num (take 3 f))) (drop 3 f)

-- the numbers in some fields
unfoldable pub numbers : List Field → List Bool → List ℕ
numbers [] f = []
numbers (x ∷ xs) f = num (take x.width f) ∷ numbers xs (drop x.width f)

-- the kind of a word
abbrev pub kind_of : ℕ → ℕ
kind_of x = num (take 3 (bits 64 x))

-- the kind of a step word, and the numbers in its fields
unfoldable pub fields_of : Edition → ℕ → List ℕ
fields_of ed x = kind_of x ∷ numbers (fields ed (kind_of x)) (drop 3 (bits 64 x))

-- the same as the code has it, 0 for a field that a kind has not
unfoldable pub fields_in : Edition → ℕ → Fields
fields_in ed x = record {
  kind = get_or (fields_of ed x) 0 0;
  first = get_or (fields_of ed x) 1 0;
  second = get_or (fields_of ed x) 2 0;
  third = get_or (fields_of ed x) 3 0;
  fourth = get_or (fields_of ed x) 4 0;
}

abbrev pub no_field : Field
no_field = field 0 0 0

-- a field may hold whatever fits
abbrev pub full : Field → Bool
full x = cond (eqb x.least 0) (eqb (suc x.most) (2 ^ x.width)) false

-- the first of some fields, from a bit on, that may not hold whatever fits, as the code has it
abbrev pub bound_of : ℕ → List Field → Option Bound
bound_of from [] = None
bound_of from (x ∷ xs) =
    cond (full x) (bound_of (from + x.width) xs) (Some (record { from = from; width = x.width; least = x.least; most = x.most }))

-- a layout as the code has it: the bits of the step, those of each field, and the bound
abbrev pub layout_with : ℕ → ℕ → ℕ → ℕ → Option Bound → Layout
layout_with a b c d bound = record { width = 3 + a + b + c + d; first = a; second = b; third = c; fourth = d; bound = bound }

-- some fields as such a layout
abbrev pub laid_out : List Field → Layout
laid_out xs = record {
  width = step_width xs;
  first = (get_or xs 0 no_field).width;
  second = (get_or xs 1 no_field).width;
  third = (get_or xs 2 no_field).width;
  fourth = (get_or xs 3 no_field).width;
  bound = bound_of 3 xs;
}

-- the layout of the fields of a kind; none where no step has the kind
abbrev pub layout_of : List Field → Option Layout
layout_of [] = None
layout_of (x ∷ xs) = Some (laid_out (x ∷ xs))

-- a word holds in the field of a bound a number that it may hold
abbrev pub within : Bound → ℕ → Bool
within b x = cond (leb b.least (field_at x b.from b.width)) (leb (field_at x b.from b.width) b.most) false

-- a word keeps the bound of a layout, if there is one
abbrev pub allowed : Option Bound → ℕ → Bool
allowed None x = true
allowed (Some b) x = within b x
