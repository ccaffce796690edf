-- The codes of files and drafts, by which proofs tell them apart: those of their parts.
use Rattle.std.specs.Prelude.{ℤ, List, Option, refl}
use Rattle.std.specs.Coded.{Coded, code_by, coded×, coded_ℤ, coded_list, coded_option}
use Rattle.nl_model.specs.Trees.{Tree}
use Rattle.nl_model.specs.contracts.header_counts.Counts.{the_row as counts_row}
use Rattle.nl_model.specs.contracts.definition.Def.{the_row as definition_row}
use Rattle.linear_program.specs.contracts.interval.Interval.{the_row as interval_row}
use Rattle.nl_model.specs.contracts.objective.Objective.{the_row as objective_row}
use Rattle.nl_model.specs.contracts.suffix.Suffix.{the_row as suffix_row}
use Rattle.linear_program.specs.contracts.terms.Terms.{the_row as terms_row}
use Rattle.nl_model.specs.declared.header_counts.Counts.{Counts}
use Rattle.linear_program.specs.declared.interval.Interval.{Interval}
use Rattle.nl_model.specs.File.{Term, File}
use Rattle.nl_model.specs.declared.objective.Objective.{Objective}
use Rattle.nl_model.specs.declared.definition.Def.{Def as Definition}
use Rattle.nl_model.specs.declared.suffix.Suffix.{Suffix}
use Rattle.nl_model.specs.Draft.{Draft}
use Rattle.nl_model.specs.InsideTreeCode.{tree_code}

-- what files and drafts share but for objectives
abbrev Rest : Type 0
Rest =
    (List ℤ × Counts)
    × ((List (Option Tree) × List Definition)
    × ((List (List Term) × List (List Term))
    × ((List Interval × List Interval) × ((List Term × List Term) × List Suffix))))

abbrev rest_code : Coded Rest
rest_code =
    coded× (coded× (coded_list coded_ℤ) counts_row.coded)
    (coded× (coded× (coded_list (coded_option tree_code)) (coded_list definition_row.coded))
    (coded× (coded× (coded_list terms_row.coded) (coded_list terms_row.coded))
    (coded× (coded× (coded_list interval_row.coded) (coded_list interval_row.coded))
    (coded× (coded× terms_row.coded terms_row.coded) (coded_list suffix_row.coded)))))

abbrev pub file_code : Coded File
file_code =
    code_by (List Objective × Rest) (coded× (coded_list objective_row.coded) rest_code)
    (λ f. (
      f.objectives,
      (
        (f.options, f.counts),
        (
          (f.bodies, f.definitions),
          (
            (f.terms, f.slopes),
            ((f.sides, f.bounds), ((f.dual_guesses, f.primal_guesses), f.suffixes)),
          ),
        ),
      ),
    ))
    (λ p. record {
      options = p.1.0.0;
      counts = p.1.0.1;
      bodies = p.1.1.0.0;
      objectives = p.0;
      definitions = p.1.1.0.1;
      terms = p.1.1.1.0.0;
      slopes = p.1.1.1.0.1;
      sides = p.1.1.1.1.0.0;
      bounds = p.1.1.1.1.0.1;
      dual_guesses = p.1.1.1.1.1.0.0;
      primal_guesses = p.1.1.1.1.1.0.1;
      suffixes = p.1.1.1.1.1.1;
    })
    (λ _. refl)

abbrev pub draft_code : Coded Draft
draft_code =
    code_by (List (Option Objective) × Rest)
    (coded× (coded_list (coded_option objective_row.coded)) rest_code)
    (λ f. (
      f.objectives,
      (
        (f.options, f.counts),
        (
          (f.bodies, f.definitions),
          (
            (f.terms, f.slopes),
            ((f.sides, f.bounds), ((f.dual_guesses, f.primal_guesses), f.suffixes)),
          ),
        ),
      ),
    ))
    (λ p. record {
      options = p.1.0.0;
      counts = p.1.0.1;
      bodies = p.1.1.0.0;
      objectives = p.0;
      definitions = p.1.1.0.1;
      terms = p.1.1.1.0.0;
      slopes = p.1.1.1.0.1;
      sides = p.1.1.1.1.0.0;
      bounds = p.1.1.1.1.0.1;
      dual_guesses = p.1.1.1.1.1.0.0;
      primal_guesses = p.1.1.1.1.1.0.1;
      suffixes = p.1.1.1.1.1.1;
    })
    (λ _. refl)
