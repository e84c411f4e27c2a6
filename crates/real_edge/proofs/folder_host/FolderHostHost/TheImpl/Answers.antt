-- Nobody says that the host is honest, and it tells no folders, launches, output or calls.
use Rattle.std.proofs.Common.{inl, refl, rules}
use Rattle.real_edge.proofs.folder_host.FolderHostHost.TheImpl.Goals as goal

pub make_dir-tells : goal.make_dir-tells
make_dir-tells g c = record {
  folder = λ honest. absurd honest;
  launches = refl;
  output = λ honest. absurd honest;
  honest = (λ h. h, λ h. h);
  calls = tt;
  cause = search rules;
}

pub start-tells : goal.start-tells
start-tells g c = record {
  launches = inl refl;
  launched = λ honest. absurd honest;
  folders = λ honest. refl;
  output = λ honest. absurd honest;
  honest = (λ h. h, λ h. h);
  calls = tt;
  cause = search rules;
}

pub look-tells : goal.look-tells
look-tells g c = record {
  state = λ honest. absurd honest;
  launches = refl;
  folders = λ honest. refl;
  output = λ honest. absurd honest;
  honest = (λ h. h, λ h. h);
  calls = tt;
  cause = search rules;
}

pub read-tells : goal.read-tells
read-tells g c = record {
  room = search rules;
  count = λ honest. absurd honest;
  bytes = λ honest. absurd honest;
  launches = refl;
  folders = λ honest. refl;
  output = λ honest. absurd honest;
  honest = (λ h. h, λ h. h);
  calls = tt;
  cause = search rules;
}

pub pause-tells : goal.pause-tells
pause-tells g c = record {
  launches = refl;
  folders = λ honest. refl;
  output = λ honest. absurd honest;
  honest = (λ h. h, λ h. h);
  calls = tt;
  calm = search rules;
}

pub remove-tells : goal.remove-tells
remove-tells g c = record {
  folder = λ honest. absurd honest;
  launches = refl;
  output = λ honest. absurd honest;
  honest = (λ h. h, λ h. h);
  calls = tt;
  cause = search rules;
}
