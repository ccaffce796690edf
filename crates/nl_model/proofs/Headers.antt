-- What the rules of headers say, as facts.
use Rattle.std.proofs.Common.{◌+◌, ◌-◌, ◌^◌, max, ◌&&◌, leb, List, IsTrue}
use Rattle.std.proofs.lemmas.Bool.{leb-true, and_parts}
use Rattle.std.specs.Prelude.{ℤ}
use Rattle.nl_model.specs.declared.header_counts.Counts.{Counts}
use Rattle.nl_model.specs.HeaderRules.{are_options, are_numbers, has_no_refused, are_sizes_within, are_shared_within, are_whole_within, are_definitions_within, are_counts, is_header, AreCounts}

pub counts_of_header : (os : List ℤ) (c : Counts) → IsTrue (is_header os c) → AreCounts c
unfolding is_header
counts_of_header os c h =
    let all = (and_parts (are_options os) (are_counts c) h).1 in
    let p5 = and_parts (are_numbers c && has_no_refused c && are_sizes_within c && are_shared_within c && are_whole_within c) (are_definitions_within c) all in
    let p4 = and_parts (are_numbers c && has_no_refused c && are_sizes_within c && are_shared_within c) (are_whole_within c) p5.0 in
    let p3 = and_parts (are_numbers c && has_no_refused c && are_sizes_within c) (are_shared_within c) p4.0 in
    let p2 = and_parts (are_numbers c && has_no_refused c) (are_sizes_within c) p3.0 in
    let s3 = and_parts (leb c.n_var (2 ^ 20) && leb c.n_con (2 ^ 20) && leb c.n_obj 256) (leb c.nzc (2 ^ 22)) p2.1 in
    let s2 = and_parts (leb c.n_var (2 ^ 20) && leb c.n_con (2 ^ 20)) (leb c.n_obj 256) s3.0 in
    let s1 = and_parts (leb c.n_var (2 ^ 20)) (leb c.n_con (2 ^ 20)) s2.0 in
    let b1 = and_parts (leb c.nlvb c.nlvc) (leb c.nlvb c.nlvo) p3.1 in
    let w3 = and_parts (leb c.nlvbi c.nlvb && leb c.nlvci (c.nlvc - c.nlvb) && leb c.nlvoi (c.nlvo - c.nlvc)) (leb (max c.nlvc c.nlvo + c.nbv + c.niv) c.n_var) p4.1 in
    let w2 = and_parts (leb c.nlvbi c.nlvb && leb c.nlvci (c.nlvc - c.nlvb)) (leb c.nlvoi (c.nlvo - c.nlvc)) w3.0 in
    let w1 = and_parts (leb c.nlvbi c.nlvb) (leb c.nlvci (c.nlvc - c.nlvb)) w2.0 in
    record {
      variables = leb-true _ _ s1.0;
      constraints = leb-true _ _ s1.1;
      objectives = leb-true _ _ s2.1;
      terms = leb-true _ _ s3.1;
      shared_in_constraints = leb-true _ _ b1.0;
      shared_in_objectives = leb-true _ _ b1.1;
      whole_shared = leb-true _ _ w1.0;
      whole_in_constraints = leb-true _ _ w1.1;
      whole_in_objectives = leb-true _ _ w2.1;
      grouped = leb-true _ _ w3.1;
      defined = leb-true _ _ p5.1;
    }
