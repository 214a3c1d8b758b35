-- The numbers of Linux's errors.
use Rattle.std.specs.Prelude.{ℕ}
use Rattle.mp_types.specs.declared.errno.Errno.{Errno}
use Rattle.mp_types.specs.declared.errno.Errno.TheVariants.{Eperm, Enoent, Eio, Ebadf, Enomem, Eexist, Enotdir, Eisdir, Einval, Emfile, Efbig, Enametoolong, Enotempty, Eoverflow, Estale}

abbrev pub number_of : Errno → ℕ
number_of Eperm = 1
number_of Enoent = 2
number_of Eio = 5
number_of Ebadf = 9
number_of Enomem = 12
number_of Eexist = 17
number_of Enotdir = 20
number_of Eisdir = 21
number_of Einval = 22
number_of Emfile = 24
number_of Efbig = 27
number_of Enametoolong = 36
number_of Enotempty = 39
number_of Eoverflow = 75
number_of Estale = 116
