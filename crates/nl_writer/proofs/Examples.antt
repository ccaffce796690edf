-- Examples, by computation.
use Rattle.std.proofs.Common.{◌≡◌, ℤ, pos, negsuc, List, [], ◌∷◌, ◌++◌, None, false, refl, ap, ◌∙◌, arith, lit<, lit≤}
use Rattle.std.specs.Prelude.{codes}
use Rattle.std.proofs.lemmas.Fmt.{decimal_digit, decimal_step}
use Rattle.std.specs.Fmt.{decimal}
use Rattle.code_tables.specs.Opcodes.{operands_of}
use Rattle.code_tables.specs.declared.class.OpClass.TheVariants.{Sum, Least}
use Rattle.exact_numbers.specs.declared.dec.Dec.{Dec}
use Rattle.nl_model.specs.Trees.{number, variable, defined, operator, none, more}
use Rattle.linear_program.specs.declared.interval.Interval.{Interval}
use Rattle.nl_model.specs.File.{File}
use Rattle.text_base.specs.WordLines.{lines_text}
use Rattle.nl_writer.specs.Trees.{tree_lines}
use Rattle.nl_writer.specs.Written.{nl_text}

d0 : decimal 0 ≡ 48 ∷ []
d0 = decimal_digit 0 (omega arith)

d1 : decimal 1 ≡ 49 ∷ []
d1 = decimal_digit 1 (omega arith)

d2 : decimal 2 ≡ 50 ∷ []
d2 = decimal_digit 2 (omega arith)

d3 : decimal 3 ≡ 51 ∷ []
d3 = decimal_digit 3 (omega arith)

d5 : decimal 5 ≡ 53 ∷ []
d5 = decimal_digit 5 (omega arith)

d7 : decimal 7 ≡ 55 ∷ []
d7 = decimal_digit 7 (omega arith)

d11 : decimal 11 ≡ 49 ∷ 49 ∷ []
d11 = decimal_step 11 (omega arith) (lit< tt) ∙ ap (λ ds. ds ++ 49 ∷ []) d1

d15 : decimal 15 ≡ 49 ∷ 53 ∷ []
d15 = decimal_step 15 (omega arith) (lit< tt) ∙ ap (λ ds. ds ++ 53 ∷ []) d1

two : Dec
two = record { m = pos 2; e = pos 0; spelled = record { mantissa = lit< tt; exponent = lit≤ tt; shortest = λ z. absurd (omega (arith, z)) } }

-- one and a half
more_than_one : Dec
more_than_one = record { m = pos 15; e = negsuc 0; spelled = record { mantissa = lit< tt; exponent = lit≤ tt; shortest = λ z. absurd (omega (arith, z)) } }

no_sides : Interval
no_sides = record { lo = None; hi = None }

options : List ℤ
options = pos 1 ∷ pos 1 ∷ pos 0 ∷ []

-- one variable without bounds, and the objective 5 + 2 x0
objective_alone : File
objective_alone =
    record {
      options = options;
      counts = record {
        n_var = 1;
        n_con = 0;
        n_obj = 1;
        n_ranges = 0;
        n_eqns = 0;
        n_lcon = 0;
        nlc = 0;
        nlo = 0;
        nlnc =
            0;
        lnc = 0;
        nlvc = 0;
        nlvo = 0;
        nlvb = 0;
        nwv = 0;
        nfunc = 0;
        arith = 0;
        flags = 1;
        nbv = 0;
        niv = 0;
        nlvbi =
            0;
        nlvci = 0;
        nlvoi = 0;
        nzc = 0;
        nzo = 1;
        row_name_len = 0;
        col_name_len = 0;
        comb = 0;
        comc = 0;
        como = 0;
        comc1 = 0;
        como1 = 0;
      };
      bodies = [];
      objectives = record { maximise = false; tree = number (pos 5) (pos 0) } ∷ [];
      definitions = [];
      terms = [];
      slopes = ((0, two) ∷ []) ∷ [];
      sides = [];
      bounds = no_sides ∷ [];
      dual_guesses = [];
      primal_guesses = [];
      suffixes = [];
    }

objective_text : nl_text objective_alone ≡ codes "g3 1 1 0\n1 0 1 0 0\n0 0\n0 0\n0 0 0\n0 0 0 1\n0 0 0 0 0\n0 1\n0 0\n0 0 0 0 0\nO0 0\nn5\nb\n3\nk0\nG0 1\n0 2\n"
unfolding objective_alone options two no_sides
objective_text = rw (d0, d1, d2, d3, d5) refl

-- guesses and a suffix
guessed : File
guessed =
    record {
      options = options;
      counts = record {
        n_var = 1;
        n_con = 1;
        n_obj = 0;
        n_ranges = 0;
        n_eqns = 0;
        n_lcon = 0;
        nlc = 0;
        nlo = 0;
        nlnc =
            0;
        lnc = 0;
        nlvc = 0;
        nlvo = 0;
        nlvb = 0;
        nwv = 0;
        nfunc = 0;
        arith = 0;
        flags = 1;
        nbv = 0;
        niv = 0;
        nlvbi =
            0;
        nlvci = 0;
        nlvoi = 0;
        nzc = 0;
        nzo = 0;
        row_name_len = 0;
        col_name_len = 0;
        comb = 0;
        comc = 0;
        como = 0;
        comc1 = 0;
        como1 = 0;
      };
      bodies = None ∷ [];
      objectives = [];
      definitions = [];
      terms = [] ∷ [];
      slopes = [];
      sides = no_sides ∷ [];
      bounds = no_sides ∷ [];
      dual_guesses = (0, more_than_one) ∷ [];
      primal_guesses = (0, two) ∷ [];
      suffixes = record { kind = 0; name = codes "sstatus"; values = (0, two) ∷ [] } ∷ record { kind = 0; name = codes "a"; values = [] } ∷ [];
    }

guessed_text : nl_text guessed ≡ codes "g3 1 1 0\n1 1 0 0 0\n0 0\n0 0\n0 0 0\n0 0 0 1\n0 0 0 0 0\n0 0\n0 0\n0 0 0 0 0\nS0 1 sstatus\n0 2\nS0 0 a\nd1\n0 1.5\nx1\n0 2\nr\n3\nb\n3\nk0\n"
unfolding guessed options two more_than_one no_sides
guessed_text = rw (d0, d1, d2, d3, d15) refl

-- an operator with its number of operands on the next line
least_lines : lines_text (tree_lines (operator Sum (more (operator Least (more (variable 0) (more (number (negsuc 6) (pos 0)) none))) (more (defined 3) none)))) ≡ codes "o0\no11\n2\nv0\nn-7\nv3\n"
unfolding operands_of
least_lines = rw (d0, d2, d3, d7, d11) refl
