-- What the parts of a .sol file stand for.
use Rattle.sol_files.specs.declared.parts.SolParts.{SolParts}
use Rattle.sol_files.specs.Sol.{Sol}

abbrev pub sol_of : SolParts → Sol
sol_of s =
    record {
      message = s.message;
      options = s.options;
      n_con = s.n_con;
      duals = s.duals;
      n_var = s.n_var;
      primals = s.primals;
      objno = s.objno;
      suffixes = s.suffixes.items;
    }
