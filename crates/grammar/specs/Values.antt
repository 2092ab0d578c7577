-- Values: booleans and signed 32-bit integers.
use Rattle.std.specs.Prelude.{ℕ, Bool, false, eqb, ℤ, pos, negsuc}
use Rattle.std.specs.Bool.{beq}
use Rattle.grammar.specs.declared.values.«Type».{«Type» as Kind}
use Rattle.grammar.specs.declared.values.Val.{Val}
use Rattle.grammar.specs.declared.values.Val.TheVariants.{Boolean, Integer}

abbrev pub kind_of : Val → Kind
kind_of (Boolean b) = Kind.Boolean
kind_of (Integer n) = Kind.Integer

-- A kind as a word of a table.
abbrev pub kind_word : Kind → ℕ
kind_word Kind.Boolean = 0
kind_word Kind.Integer = 1

-- Two integers are equal.
abbrev pub eq_z : ℤ → ℤ → Bool
eq_z (pos a) (pos b) = eqb a b
eq_z (negsuc a) (negsuc b) = eqb a b
eq_z (pos a) (negsuc b) = false
eq_z (negsuc a) (pos b) = false

-- Two values are equal in kind and in value.
abbrev pub same_val : Val → Val → Bool
same_val (Boolean a) (Boolean b) = beq a b
same_val (Integer a) (Integer b) = eq_z a b
same_val (Boolean a) (Integer b) = false
same_val (Integer a) (Boolean b) = false
