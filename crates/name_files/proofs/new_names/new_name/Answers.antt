use Rattle.name_files.proofs.new_names.new_name.Goals as goal

pub marked-requires : goal.marked-requires
marked-requires c = rw (← c.len.ensures.value, ← c.numbered.ensures, c.in-None.is) at c.requires.named
